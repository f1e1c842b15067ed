-- Links told by tests and by relations, and city objects that have none.
use Rattle.cj_feature.proofs.Common.{Bool, ChildNotFound, Contains, Contains-append_cases, Contains-append_left, Contains-append_right, Finding, IsIn, Kind, LinkNotMutual, List, NoParent, None, Option, Reason, Some, Tree, [], and_parts, ap, are_same_texts, arith, array, both_ways, chars, children, codes, cond, contains_cases, contains_first, contains_later, contains_none, false, false_from_ne_true, flat_map, found_at, inl, inr, is_array, is_known, is_text, items_of, kind_of, links, list_any, list_members, listed_in, lists, member, members_of, no_members, object, object_links, one, parent, parents, part, refl, same_text, scalar, start_of, sym, text_of, true, ℕ, ◌++◌, ◌∙◌, ◌∷◌, ◌≡◌, ◌⊎◌, at_second_level, is_some, items_if, member_of, option_map, part_of}
use Rattle.std.specs.Cmp.Lexicographic.{bytes_decides}
use Rattle.cj_spans.specs.declared.token.Kind.TheVariants.{Null, Truth, Number, Text, Array, Object}
use Rattle.cj_spans.specs.Meaning.Text.{text}
use Rattle.cj_spans.specs.Meaning.Tree.{Members}
use Rattle.cj_feature.specs.Meaning.Links.{is_group, child}
use Rattle.cj_feature.specs.Meaning.Relations.{IsListed, Lists, IsLinkFault, child_not_found, child_not_mutual, parent_not_mutual, no_parent}
use Rattle.std.proofs.lemmas.List.Folds.{Any-from_list_any, list_any_at}
use Rattle.std.proofs.lemmas.Bool.{and_from, not-true}
use Rattle.std.specs.Option.{option_map_or}

-- ---- links told by tests on members, and by relations between ids: the findings are the same

-- ---- elements

alone : {X : Type 0} (y x : X) → Contains (y ∷ []) x → y ≡ x
alone y x h = search (arith, contains_cases, contains_none)

from-flat_map : {X A : Type 0} (g : X → List A) (xs : List X) (a : A) → Contains (flat_map g xs) a → (x : X)
    × Contains xs x × Contains (g x) a
from-flat_map g [] a h = absurd (contains_none a h)
from-flat_map g (y ∷ xs) a h =
    elim (Contains-append_cases _ _ a h) [
      | inl k ↦ (y, contains_first y xs, k)
      | inr k ↦ let r = from-flat_map g xs a k in (r.0, contains_later y xs r.0 r.1, r.2)
    ]

to-flat_map : {X A : Type 0} (g : X → List A) (xs : List X) (a : A) (x : X) → Contains xs x → Contains (g x) a
    → Contains (flat_map g xs) a
to-flat_map g [] a x h k = absurd (contains_none x h)
to-flat_map g (y ∷ xs) a x h k =
    search (arith, contains_cases, Contains-append_left, Contains-append_right, to-flat_map g xs a x)

pub from-any : {X : Type 0} (p : X → Bool) (xs : List X) → list_any p xs ≡ true → (x : X) × Contains xs x × (p x ≡ true)
from-any p xs h = let a = Any-from_list_any p xs h in (a.1, (a.0, a.2, a.3), a.4)

pub to-any : {X : Type 0} (p : X → Bool) (xs : List X) (x : X) → Contains xs x → p x ≡ true → list_any p xs ≡ true
to-any p xs x h k = list_any_at p xs h.0 x h.1 (ap p h.2 ∙ k)

-- what a list has where a test holds, and where it does not
by-test : {A : Type 0} (b : Bool) (xs ys : List A) (x : A) → Contains (cond b xs ys) x → ((b ≡ true) × Contains xs x)
    ⊎ ((b ≡ false) × Contains ys x)
by-test true xs ys x h = inl (refl, h)
by-test false xs ys x h = inr (refl, h)

when : {A : Type 0} (b : Bool) (xs : List A) (x : A) → Contains (cond b xs []) x → (b ≡ true) × Contains xs x
when b xs x h = search (arith, by-test, contains_none)

unless : {A : Type 0} (b : Bool) (xs : List A) (x : A) → Contains (cond b [] xs) x → (b ≡ false) × Contains xs x
unless b xs x h = search (arith, by-test, contains_none)

-- and where there is a value
where-there : {A : Type 0} (rule : Tree → List A) (o : Option Tree) (x : A) → Contains (option_map_or rule o []) x
    → (u : Tree) × (o ≡ Some u) × Contains (rule u) x
where-there rule None x h = absurd (contains_none x h)
where-there rule (Some u) x h = (u, refl, h)

-- ---- texts

pub from-texts : (o p : Option (List ℕ)) → are_same_texts o p ≡ true → (t : List ℕ) × (o ≡ Some t) × (p ≡ Some t)
from-texts None p h = cc
from-texts (Some s) None h = cc
from-texts (Some s) (Some t) h = (s, refl, ap (λ z. Some z) (sym ((bytes_decides s t).0 h)))

pub to-texts : (o p : Option (List ℕ)) (t : List ℕ) → o ≡ Some t → p ≡ Some t → are_same_texts o p ≡ true
to-texts o p t h k = rw (h, k) ((bytes_decides t t).1 refl)

-- a text of the one is the text of the other
carried : (t u : Tree) (b : List ℕ) → same_text t u ≡ true → text_of u ≡ Some b → text_of t ≡ Some b
carried t u b h k = search (arith, from-texts)

-- what is no text has none
pub text-cases : (t : Tree) → ((kind_of t ≡ Text) × (b : List ℕ) × (text_of t ≡ Some b))
    ⊎ ((is_text (kind_of t) ≡ false) × (text_of t ≡ None))
text-cases (scalar Null a) = inr (refl, refl)
text-cases (scalar Truth a) = inr (refl, refl)
text-cases (scalar Number a) = inr (refl, refl)
text-cases (scalar Text a) = inl (refl, text _, refl)
text-cases (scalar Array a) = inr (refl, refl)
text-cases (scalar Object a) = inr (refl, refl)
text-cases (array i j ts) = inr (refl, refl)
text-cases (object i j ms) = inr (refl, refl)

text-kind : (t : Tree) (b : List ℕ) → text_of t ≡ Some b → is_text (kind_of t) ≡ true
text-kind t b h = elim (text-cases t) [ inl y ↦ ap is_text y.0 | inr n ↦ cc ]

kind-text : (t : Tree) → is_text (kind_of t) ≡ true → (b : List ℕ) × (text_of t ≡ Some b)
kind-text t h = elim (text-cases t) [ inl y ↦ (y.1, y.2) | inr n ↦ absurd (cc) ]

-- each name has a text
member-text : (ms : Members) (m : Tree × Tree) → Contains (list_members ms) m → (x : List ℕ) × (text_of m.0 ≡ Some x)
member-text no_members m h = absurd (contains_none m h)
member-text (member n u ms) m h =
    elim (contains_cases (scalar _ n, u) _ m h) [
      | inl e ↦ (text _, ap (λ z. text_of z.0) (sym e))
      | inr k ↦ member-text ms m k
    ]

names-text : (t : Tree) (m : Tree × Tree) → Contains (members_of t) m → (x : List ℕ) × (text_of m.0 ≡ Some x)
names-text (scalar k a) m h = absurd (contains_none m h)
names-text (array i j ts) m h = absurd (contains_none m h)
names-text (object i j ms) m h = member-text ms m h

-- ---- what the tests say

array-kind : (k : Kind) → is_array k ≡ true → k ≡ Array
array-kind Null h = cc
array-kind Truth h = cc
array-kind Number h = cc
array-kind Text h = cc
array-kind Array h = refl
array-kind Object h = cc

items-kind : (t item : Tree) → Contains (items_of t) item → kind_of t ≡ Array
items-kind (scalar k a) item h = absurd (contains_none _ h)
items-kind (array i j ts) item h = refl
items-kind (object i j ms) item h = absurd (contains_none _ h)

pub from-listed : (list : List ℕ) (o item : Tree) → Contains (listed_in list o) item → IsListed list o item
from-listed list o item h = search (arith, where-there, items-kind)

pub to-listed : (list : List ℕ) (o item : Tree) → IsListed list o item → Contains (listed_in list o) item
to-listed list o item h = rw h.member h.held

-- what is no text is no id
pub known-text : (objects : List (Tree × Tree)) (id : Tree) → is_known objects id ≡ true → (b : List ℕ)
    × (text_of id ≡ Some b) × IsIn objects b
known-text objects id h = search (arith, from-any, from-texts)

module _ (objects : List (Tree × Tree)) where
  to-known : (id : Tree) (b : List ℕ) → text_of id ≡ Some b → IsIn objects b → is_known objects id ≡ true
  to-known id b t h = search (arith, to-any, to-texts)

  from-lists : (list : List ℕ) (from to : Tree) (a b : List ℕ) → text_of from ≡ Some a → text_of to ≡ Some b
      → lists list objects from to ≡ true → Lists list objects a b
  from-lists list from to a b s t h = search (arith, from-any, and_parts, carried, from-listed)

  to-lists : (list : List ℕ) (from to : Tree) (a b : List ℕ) → text_of from ≡ Some a → text_of to ≡ Some b
      → Lists list objects a b → lists list objects from to ≡ true
  to-lists list from to a b s t h = search (arith, to-any, and_from, to-texts, to-listed)

-- ---- each finding of the list is a fault by the relations

fault_of_one : (objects : List (Tree × Tree)) (r : Reason) (t : Tree) (f : Finding) → Contains (one r t) f
    → IsLinkFault objects (found_at (start_of t) r) → IsLinkFault objects f
fault_of_one objects r t f h fault = search (arith, alone)

module _ (t : Tree) (m : Tree × Tree) (f : Finding) (held : Contains (members_of t) m) where
  from-child : (item : Tree) → is_group m.1 ≡ false → IsListed (chars (codes "children")) m.1 item
      → Contains (child (members_of t) m.0 item) f → IsLinkFault (members_of t) f
  from-child item other listed h =
      let objects = members_of t in
      let text = when (is_text (kind_of item)) _ f h in
      let id = kind-text item text.0 in
      let name = names-text t m held in
      elim (by-test (is_known objects item) _ _ f text.1) [
        | inl known ↦
            let is = known-text objects item known.0 in
            let back = unless (lists (chars (codes "parents")) objects item m.0) _ f known.1 in
            fault_of_one objects LinkNotMutual item f back.1
            (child_not_mutual m item name.0 is.0 held other listed name.1 is.1 is.2
            (λ p. both_ways _ back.0 (to-lists objects (chars (codes "parents")) item m.0 is.0 name.0 is.1 name.1 p)))
        | inr unknown ↦
            fault_of_one objects ChildNotFound item f unknown.1
            (child_not_found m item id.0 held other listed id.1
            (λ is. both_ways _ unknown.0 (to-known objects item id.0 id.1 is)))
      ]

  from-parent : (item : Tree) → IsListed (chars (codes "parents")) m.1 item
      → Contains (parent (members_of t) m.0 item) f → IsLinkFault (members_of t) f
  from-parent item listed h =
      let objects = members_of t in
      let known = when _ _ f h in
      let is = known-text _ _ known.0 in
      let name = names-text t m held in
      let back = unless _ _ f known.1 in
      fault_of_one _ _ item f back.1
      (parent_not_mutual m _ _ _ held listed name.1 is.1 is.2
      (λ p. both_ways _ back.0 (to-lists _ _ _ m.0 _ _ is.1 name.1 p)))

  from-part : Contains (part (members_of t) m) f → IsLinkFault (members_of t) f
  from-part h =
      let objects = members_of t in
      let at = when _ _ f h in
      let u = where-there _ _ f at.1 in
      let none = when _ _ f u.2 in
      let both = and_parts _ _ none.0 in
      fault_of_one _ _ m.1 f none.1
      (no_parent m u.0 held at.0 u.1 (array-kind _ both.0)
      (λ item a k s is. both_ways _ (not-true _ both.1)
      (to-any _ _ _ k (to-known _ _ a s is))))

  from-object : Contains (object_links (members_of t) m) f → IsLinkFault (members_of t) f
  from-object h =
      let objects = members_of t in
      elim (Contains-append_cases (children objects m ++ parents objects m) (part objects m) f h) [
        | inl k ↦ elim (Contains-append_cases (children objects m) (parents objects m) f k) [
          | inl c ↦
              let other = unless (is_group m.1) _ f c in
              let r = from-flat_map (child objects m.0) (listed_in (chars (codes "children")) m.1) f other.1 in
              from-child r.0 other.0 (from-listed (chars (codes "children")) m.1 r.0 r.1) r.2
          | inr p ↦
              let r = from-flat_map (parent objects m.0) (listed_in (chars (codes "parents")) m.1) f p in
              from-parent r.0 (from-listed (chars (codes "parents")) m.1 r.0 r.1) r.2
        ]
        | inr p ↦ from-part p
      ]

-- ---- each fault by the relations is a finding of the list

module _ (t : Tree) where
  pub from-links : (f : Finding) → Contains (links (Some t)) f → IsLinkFault (members_of t) f
  from-links f h =
      let r = from-flat_map _ _ f h in
      from-object t r.0 f r.1 r.2

  to-children : (f : Finding) (m : Tree × Tree) (item : Tree) → Contains (members_of t) m → is_group m.1 ≡ false
      → IsListed (chars (codes "children")) m.1 item
      → Contains (child (members_of t) m.0 item) f → Contains (links (Some t)) f
  to-children f m item held other listed h =
      let objects = members_of t in
      let all = to-flat_map _ _ f _
      (to-listed _ m.1 _ listed) h in
      let mine : Contains (children objects m) f = rw other all in
      to-flat_map _ _ f m held
      (Contains-append_left _ _ f
      (Contains-append_left _ _ f mine))

  to-parents : (f : Finding) (m : Tree × Tree) (item : Tree) → Contains (members_of t) m
      → IsListed (chars (codes "parents")) m.1 item
      → Contains (parent (members_of t) m.0 item) f → Contains (links (Some t)) f
  to-parents f m item held listed h =
      search (arith, to-flat_map, to-listed, Contains-append_left, Contains-append_right)

  unlisted : (list : List ℕ) (from to : Tree) (a b : List ℕ) → text_of from ≡ Some a → text_of to ≡ Some b
      → (Lists list (members_of t) a b → ⊥) → lists list (members_of t) from to ≡ false
  unlisted list from to a b s k never = search (arith, false_from_ne_true, from-lists)

  unknown : (id : Tree) (b : List ℕ) → text_of id ≡ Some b → (IsIn (members_of t) b → ⊥)
      → is_known (members_of t) id ≡ false
  unknown id b s never = search (arith, false_from_ne_true, known-text)

  no-parent : (u : Tree) → ((item : Tree) (a : List ℕ) → Contains (items_of u) item → text_of item ≡ Some a
      → IsIn (members_of t) a → ⊥) → list_any (is_known (members_of t)) (items_of u) ≡ false
  no-parent u never = false_from_ne_true _ (λ yes.
      let r = from-any _ _ yes in
      let is = known-text _ r.0 r.2 in
      never r.0 _ r.1 is.1 is.2)

  pub to-links : (f : Finding) → IsLinkFault (members_of t) f → Contains (links (Some t)) f
  to-links f (child_not_found a item b held other listed s never) =
      to-children _ a _ held other listed (rw (text-kind _ b s, unknown _ b s never) (contains_first _ []))
  to-links f (child_not_mutual a item x b held other listed s k is never) =
      to-children _ a _ held other listed
      (rw (
        text-kind _ b k,
        to-known _ _ b k is,
        unlisted _ _ a.0 b x k s never,
      ) (contains_first _ []))
  to-links f (parent_not_mutual b item a x held listed s k is never) =
      to-parents _ b _ held listed
      (rw (to-known _ _ a k is, unlisted _ _ b.0 a x k s never)
      (contains_first _ []))
  to-links f (no_parent b u held is at kind never) =
      let objects = members_of t in
      let mine : Contains (part objects b) (found_at (start_of b.1) NoParent) =
      rw (is, at, kind, no-parent u never) (contains_first _ []) in
      to-flat_map _ _ _ b held
      (Contains-append_right _ _ _ mine)

-- told by tests, and by relations
pub ruleset links_both_ways = (from-links, to-links)

-- ---- city objects that list nobody have no links

-- and the next of some members has none
pub next_unlinked : (f : Tree × Tree → List Finding) (all rest : List (Tree × Tree)) (m : Tree × Tree)
    (total : List Finding) → total ≡ flat_map f all → all ≡ m ∷ rest → f m ≡ [] → total ≡ flat_map f rest
next_unlinked f all rest m total h e n = h ∙ ap (flat_map f) e ∙ ap (λ fs. fs ++ flat_map f rest) n

-- a member that has no number is not there
pub not_there : (f : ℕ → Tree) (o : Option ℕ) (t : Option Tree) → is_some o ≡ false → option_map f o ≡ t → t ≡ None
not_there f None t h e = sym e
not_there f (Some n) t h e = absurd (cc h)

none_at_all : (a b : Bool) → ◌≡◌ {A = List Finding} (cond a [] [] ++ [] ++ cond b [] []) []
none_at_all true true = refl
none_at_all true false = refl
none_at_all false true = refl
none_at_all false false = refl

-- a city object without children and parents has no links
pub lists_nobody : (o : Tree) → member_of (chars (codes "children")) o ≡ None
    → member_of (chars (codes "parents")) o ≡ None → (all : List (Tree × Tree)) (name : Tree)
    → object_links all (name, o) ≡ []
lists_nobody o no_children no_parents all name =
    (λ i. cond (is_group o) [] (flat_map (child all name) (items_if (no_children i)))
    ++ flat_map (parent all name) (items_if (no_parents i))
    ++ cond (at_second_level o) (part_of all o (no_parents i)) [])
    ∙ none_at_all (is_group o) (at_second_level o)
