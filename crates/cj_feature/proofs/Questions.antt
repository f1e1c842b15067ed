-- Questions on links, in order, and the names that are noted for them.
use Rattle.cj_feature.proofs.Common.{AreLeft, AreListed, AreQuestionsInOrder, Bool, Equal, Greater, IsFirstOn, Less, List, Node, None, Option, Question, Side, Some, Tree, [], always_returns_same, ap, append_assoc, arith, cases_Bool, cases_eq, cases_lt, compare_keys, compare_sides, drop, false, false_from_ne_true, from_in, inl, inr, is_known, is_lt, key_in, kind_of, length, lists, members_of, ranks_by, refl, same_text, searchable_from_sorted, slice_get_within, slice_set, sorted_far, subst, suc, sym, short_hash_of, take, text_of, text_side, tree, true, ℕ, ◌++◌, ◌+◌, ◌-◌, ◌<◌, ◌||◌, ◌∙◌, ◌∷◌, ◌≡◌, ◌≤◌, AreInNameOrder, Contains, Contains-append_left, Contains-permutation, Err, IsNoted, IsSought, Noted, Ok, Result, side_in, side_of, Finding, LinkNotMutual, NoParent, Reason, and_parts, answered, back_of, chars, children, codes, cond, flat_map, has_item, is_array, is_text, items_if, least, linked, list_any, listed_in, not, object_links, one, parents, part, part_of, ◌&&◌}
use Rattle.std.proofs.Common.{get_or, slice_get, slice_index_or, IsSortedBy, drop-set-lt, length-append, get_or-set_other, is_ok, IsPermutation}
use Rattle.std.specs.Cmp.{IsStrictWeakOrder, IsTotalOrder, nat_cmp_total, on_total, then_total, tied_itself}
use Rattle.std.specs.Cmp.Lexicographic.{nat_list_cmp_total, options_total}
use Rattle.std.specs.Fn.{Called, ComparesAs}
use Rattle.std.specs.List.Sorted.{IsPartitionedBy, IsPartitionPoint, IsBinarySearchResult}
use Rattle.std.specs.Ordering.{ordering_index}
use Rattle.std.specs.declared.cmp.Ordering.{Ordering}
use Rattle.std.proofs.lemmas.List.{drop_more, take_more_set, get_or_append_left, get_or-append_right}
use denote.Param.Members.{Mut}
use denote.Ref.{Bor}
use Rattle.cj_spans.specs.declared.token.Kind.TheVariants.{Text}
use Rattle.cj_feature.specs.declared.feature.search.hashed.Text.{Text as Hashed}
use Rattle.cj_spans.specs.Order.{compare_texts}
use Rattle.cj_geometry.proofs.Names.{still_free}
use Rattle.cj_feature.specs.inner.Questions.{Key, key_of, IsPlaceOf, IsQuestion}
use Rattle.cj_feature.proofs.LinkFaults.{from-texts, known-text, text-cases, from-any, to-any}
use Rattle.cj_feature.specs.declared.feature.search.unmarked.Names.{Names}
use Rattle.cj_feature.specs.declared.feature.search.unmarked.Names.TheVariants.{Every, These}
use Rattle.std.proofs.lemmas.List.Elements.{Contains-push}
use Rattle.cj_spans.proofs.Findings.{least-append, least-swap}
use Rattle.cj_feature.specs.declared.feature.search.link.Link.{Link}
use Rattle.cj_feature.specs.declared.feature.search.link.Link.TheVariants.{Child, Parent}

-- ---- questions on links, in order

-- ---- a list in order

module _ {X : Type 0} (lt : X → X → Bool) (o : IsStrictWeakOrder lt) where
  -- with one less it has each element that stays at its place, or at the one before
  beside : (a : List X) (x : X) (b : List X) (d : X) (k : ℕ) → (j : ℕ) × (k ≤ j) × (j ≤ k + 1)
      × (get_or (a ++ x ∷ b) j d ≡ get_or (a ++ b) k d)
  beside a x b d k =
      elim (cases_lt k _) [
        | inl l ↦ (k, omega arith, omega arith, get_or_append_left a _ d k l ∙ sym (get_or_append_left a b d k l))
        | inr ge ↦
            let later : k + 1 - length a ≡ suc (k - length a) = omega arith in (
              k + 1,
              omega arith,
              omega arith,
              get_or-append_right a _ _ _ d refl (omega arith) ∙ ap (λ n. get_or (x ∷ b) n d) later
                  ∙ sym (get_or-append_right a b _ k d refl ge),
            )
      ]

  -- and is in order
  pub one_less : (a : List X) (x : X) (b : List X) → IsSortedBy lt (a ++ x ∷ b) → IsSortedBy lt (a ++ b)
  one_less a x b up = λ k d low below.
      let i = beside a x b d k in
      let j = beside a x b d (k + 1) in
      let long : j.0 < length (a ++ x ∷ b) = omega (arith, below, j.2, length-append a (x ∷ b), length-append a b) in
      let far = sorted_far lt o (a ++ x ∷ b) up i.0 j.0 d (omega (arith, i.2, j.1)) long in
      subst (λ v. lt v (get_or (a ++ b) k d) ≡ false) j.3
      (subst (λ v. lt (get_or (a ++ x ∷ b) j.0 d) v ≡ false) i.3 far)

pub next_one : {X : Type 0} (xs : List X) (i : ℕ) → i < length xs → (x : X) × (drop i xs ≡ x ∷ drop (i + 1) xs)
next_one [] i below = absurd (omega (arith, below))
next_one (x ∷ xs) i below = (get_or (x ∷ xs) i x, drop_more _ i x below)

-- the one at i moves to the end of the first ones
pub one_more : {X : Type 0} (xs : List X) (kept i : ℕ) (d : X) → kept ≤ i → i < length xs
    → take (kept + 1) (slice_set xs kept (get_or xs i d)) ++ drop (i + 1) (slice_set xs kept (get_or xs i d))
    ≡ take kept xs ++ drop i xs
one_more xs kept i d le below = search (arith, take_more_set, drop-set-lt, append_assoc, drop_more)

same_texts : (t u : Tree) → same_text t u ≡ true → text_of t ≡ text_of u
same_texts t u h = search (arith, from-texts)

shared : (a b c : Tree) → same_text a b ≡ true → same_text a c ≡ true → same_text b c ≡ true
shared a b c e f = search (arith, same_texts)

-- ---- the order

texts_total : IsTotalOrder compare_texts
texts_total = options_total nat_list_cmp_total

pub sides_total : IsTotalOrder compare_sides
sides_total = then_total (on_total (λ (s : Side). s.0) nat_cmp_total) (on_total (λ (s : Side). s.1) texts_total)

pub keys_total : IsTotalOrder compare_keys
keys_total = then_total (on_total (λ (k : Key). k.0) sides_total) (on_total (λ (k : Key). k.1) sides_total)

-- one node has one text
pub one_text : (o p : Option (List ℕ)) → o ≡ p → compare_texts o p ≡ Equal
one_text o p e = search (arith, tied_itself, texts_total)

-- from the clause `sorted` of the sort, where each call of the closure compares keys
pub in_order : (objects : Node) {F : Type 0} {g : Mut F (Bor Question × (Bor Question × Unit {0})) Ordering} {f : F}
    (qs : List Question) → ((lt : Question → Question → Bool) → IsStrictWeakOrder lt → ComparesAs g lt f
    → IsSortedBy lt qs)
    → ((a : Bor Question × (Bor Question × Unit {0})) (r : Ordering) (f' : F) → Called g f a r f'
    → (r ≡ compare_keys (key_in objects a.0.now) (key_in objects a.1.0.now)) × (f' ≡ f))
    → AreQuestionsInOrder objects qs
in_order objects {g = g} {f = f} qs sorted each =
    let key = key_in _ in
    sorted (λ x y. is_lt _) (ranks_by keys_total key)
    (always_returns_same g (λ a r. is_lt r ≡ is_lt _) f
    (λ a r f' k. (ap is_lt (each a r f' k).0, (each a r f' k).1)))

no_later : (r s : Ordering) → ordering_index r ≤ ordering_index s → is_lt s ≡ true → is_lt r ≡ true
no_later Less s h e = refl
no_later Equal Less h e = absurd (omega arith)
no_later Equal Equal h e = e
no_later Equal Greater h e = e
no_later Greater Less h e = absurd (omega arith)
no_later Greater Equal h e = e
no_later Greater Greater h e = e

-- those before a key come before all others
pub parted : (objects : Node) (qs : List Question) (k : Key) → AreQuestionsInOrder objects qs
    → IsPartitionedBy (λ q. is_lt (compare_keys (key_in objects q) k)) qs
parted objects qs k h =
    let rises = searchable_from_sorted keys_total (key_in _) qs k h in
    λ i j d le below e. no_later _
    _ (rises i j d le below) e

-- a key has one place below the end
one_place : {X : Type 0} (p : X → Bool) (xs : List X) (d : X) (i j : ℕ) → i < length xs
    → IsPartitionPoint (λ y. p y ≡ true) (λ y. p y ≡ false) xs i
    → IsPartitionPoint (λ y. p y ≡ true) (λ y. p y ≡ false) xs j → i ≡ j
one_place p xs d i j below h k =
    let no_less : i < j → ⊥ = λ lt.
    let a = k.0 i d (omega arith) lt in
    let b = h.1 i d (omega arith) below in
    cc in
    let no_more : j < i → ⊥ = λ lt.
    let a = h.0 j d (omega arith) lt in
    let b = k.1 j d (omega arith) (omega arith) in
    cc in
    omega arith

module _ (objects : Node) (qs : List Question) where
  -- so it is with two texts, of which the second is that of the city objects
  pub place_by_texts : (p : ℕ) (from to : Hashed) → tree to.node ≡ tree objects
      → IsPlaceOf objects (text_side from, text_side to) qs p
      → IsPlaceOf objects (key_of (text_of (tree from.node)) (text_of (tree objects))) qs p
  place_by_texts p from to same h = rw (from.hashed, to.hashed, same) at h

  -- the first question on a text stands where its key has its place
  pub only_here : (t : Tree) (p i : ℕ) → IsPlaceOf objects (key_of (text_of t) (text_of (tree objects))) qs p
      → IsFirstOn objects qs t i → i ≡ p
  only_here t p i h f = search (arith, one_place, slice_get_within)

  -- so there is none, where another stands there
  pub none_here : (t : Tree) (p i : ℕ) → IsPlaceOf objects (key_of (text_of t) (text_of (tree objects))) qs p
      → ((q : Question) → slice_get qs p ≡ Some q → q.from.short_hash ≡ short_hash_of (text_of t)
      → same_text (from_in objects q) t ≡ false) → IsFirstOn objects qs t i → ⊥
  none_here t p i h other f =
      let no =
      other _ (ap (slice_get qs) (sym (only_here t p i h f)) ∙ f.stands) f.hashed in
      let yes = f.same in
      cc

  moved : (n t : Tree) (i : ℕ) → text_of n ≡ text_of t → IsFirstOn objects qs t i → IsFirstOn objects qs n i
  moved n t i e f = search arith

  -- ---- one city object less is left

  module _ (flags : List Bool) (m : Tree × Tree) (rest : List (Tree × Tree))
      (left : AreLeft objects qs flags (m ∷ rest)) where
    -- whose name is not asked about
    pub left_unasked : ((i : ℕ) → IsFirstOn objects qs m.0 i → None ≡ Some i) → AreLeft objects qs flags rest
    left_unasked none = λ t i f clear.
        elim (cases_Bool _) [
          | inl e ↦ let no = none i (moved m.0 t i (same_texts m.0 t e) f) in absurd (cc)
          | inr e ↦ left t i f clear ∙ ap (λ v. v || is_known rest t) e
        ]

    -- whose name is asked about: the first question on it has a flag now
    pub left_flagged : (p : ℕ) → p < length flags → ((i : ℕ) → IsFirstOn objects qs m.0 i → Some p ≡ Some i)
        → AreLeft objects qs (slice_set flags p true) rest
    left_flagged p below is = λ t i f clear.
        elim (cases_Bool _) [
          | inl e ↦
              let same = is i (moved m.0 t i (same_texts m.0 t e) f) in
              let at : p ≡ i = cc in
              absurd ((still_free _ p i below clear).0 (sym at))
          | inr e ↦ left t i f (still_free _ p i below clear).1 ∙ ap (λ v. v || is_known rest t) e
        ]

  -- ---- what is listed

  pub listed_on : (list : List ℕ) (flags : List Bool) (from to : Tree) (p : ℕ) → AreListed list objects qs flags
      → IsQuestion objects qs from to p
      → ((f t : Tree) → same_text from f ≡ true → same_text to t ≡ true
      → lists list (members_of (tree objects)) f t ≡ true) → AreListed list objects qs (slice_set flags p true)
  listed_on list flags from to p old here has = search (arith, cases_eq, shared, get_or-set_other)

  -- ---- no questions

  pub none_listed : (list : List ℕ) (flags : List Bool) → ((i : ℕ) → slice_index_or flags i false ≡ false)
      → AreListed list objects qs flags
  none_listed list flags none = search arith

-- ---- what is no text is the name of nothing

pub unknown : (objects : List (Tree × Tree)) (t : Tree) → (kind_of t ≡ Text → ⊥) → is_known objects t ≡ false
unknown objects t h = search (arith, false_from_ne_true, known-text, text-cases)

-- ---- names that are noted in order

module _ {X : Type 0} (xs : List X) (c : ℕ) (v : X) (below : c < length xs) where
  -- what is among the first ones is so with one more
  pub kept-first : (x : X) → Contains (take c xs) x → Contains (take (c + 1) (slice_set xs c v)) x
  kept-first x h = rw (take_more_set xs c v below) (Contains-append_left _ _ x h)

  -- and so is that one
  pub last-first : Contains (take (c + 1) (slice_set xs c v)) v
  last-first = rw (take_more_set xs c v below) (Contains-push _ v)

module _ (objects : Node) where
  -- names in another order are the same
  pub noted-moved : (xs ys : List Noted) (t : Tree) → IsPermutation xs ys → IsNoted objects xs t → IsNoted objects ys t
  noted-moved xs ys t moved n = (n.0, Contains-permutation xs ys n.0 moved n.1, n.2)

  -- what has the text of a noted name is noted
  noted-same : (names : List Noted) (t u : Tree) → same_text t u ≡ true → IsNoted objects names t
      → IsNoted objects names u
  noted-same names t u same n = search (arith, from-texts)

  pub sought-same : (names : Names) (t u : Tree) → same_text t u ≡ true → IsSought objects names t
      → IsSought objects names u
  sought-same Every t u same n = tt
  sought-same (These names) t u same n = noted-same _ t u same n

  -- no name is noted where there is none
  pub none-noted : (t : Tree) → IsNoted objects [] t → ⊥
  none-noted t n = omega (arith, n.1.1)

  -- where a search by halves finds none, no name has the text
  pub not-found : (names : List Noted) (t : Tree) (side : Side) (r : Result ℕ ℕ) → AreInNameOrder objects names
      → side ≡ side_of (text_of t) → is_ok r ≡ false
      → IsBinarySearchResult (λ n. compare_sides (side_in objects n) side) names r → IsNoted objects names t → ⊥
  not-found names t side (Ok i) order e none is n = cc
  not-found names t side (Err i) order e none is n =
      let parts = is (searchable_from_sorted sides_total (side_in objects) names side order) in
      let x : Noted = n.0 in
      let k : ℕ = n.1.0 in
      let same : get_or names k x ≡ x = n.1.2 in
      let equal : compare_sides (side_in objects (get_or names k x)) side ≡ Equal =
      subst (λ y. compare_sides (side_in objects y) side ≡ Equal) (sym same)
      (subst (λ s. compare_sides s side ≡ Equal) (e ∙ sym n.2) (tied_itself sides_total side)) in
      elim (cases_lt k i) [
        | inl below ↦ let less = parts.0 k x (omega arith) below in
            cc
        | inr above ↦ let more = parts.1 k x above n.1.1 in cc
      ]

-- ---- links in two walks: the children of all city objects, then their parents

-- ---- who lists is in the feature

pub lists_known : (list : List ℕ) (objects : List (Tree × Tree)) (from to : Tree) → lists list objects from to ≡ true
    → is_known objects from ≡ true
lists_known list objects from to h =
    let r = from-any (λ m. same_text m.0 from && has_item (listed_in list m.1) to) objects h in
    to-any (λ m. same_text m.0 from) objects r.0 r.1 (and_parts _ _ r.2).0

-- what is found on one that is listed, where it is none or an id, and where it is listed back
abbrev found_on : Bool → Bool → Bool → Tree → List Finding → List Finding
found_on a b c t missing = cond a (cond b (answered c t) missing) []

nothing_on : (a b c : Bool) (t : Tree) (missing : List Finding) → b ≡ true → c ≡ true → found_on a b c t missing ≡ []
nothing_on false b c t missing g h = refl
nothing_on true true true t missing g h = refl
nothing_on true false c t missing g h = cc
nothing_on true true false t missing g h = cc

hidden_on : (a b c : Bool) (t : Tree) (missing : List Finding) (o : Option Finding) → least o (one LinkNotMutual t) ≡ o
    → o ≡ least o missing → o ≡ least o (found_on a b c t missing)
hidden_on false b c t missing o hidden none = refl
hidden_on true false c t missing o hidden none = none
hidden_on true true true t missing o hidden none = refl
hidden_on true true false t missing o hidden none = sym hidden

-- what is listed back has no finding
pub listed_linked : (k : Link) (objects : List (Tree × Tree)) (name item : Tree) (o : Option Finding)
    → lists (back_of k) objects item name ≡ true → o ≡ least o (linked k objects name item)
listed_linked k objects name item o h = ap (least o) (sym (go k h))
  where
    go : (k : Link) → lists (back_of k) objects item name ≡ true → linked k objects name item ≡ []
    go Child h = nothing_on (is_text (kind_of item)) _ _ item _ (lists_known (back_of Child) objects item name h) h
    go Parent h = nothing_on true _ _ item [] (lists_known (back_of Parent) objects item name h) h

-- and what comes behind a finding has none that counts
pub hidden_linked : (k : Link) (objects : List (Tree × Tree)) (name item : Tree) (o : Option Finding)
    → ((r : Reason) → least o (one r item) ≡ o) → o ≡ least o (linked k objects name item)
hidden_linked Child objects name item o hidden = search (arith, hidden_on)
hidden_linked Parent objects name item o hidden = search (arith, hidden_on)

-- ---- a part with a parent that is in the feature

closed : (a : Bool) (fs : List Finding) → cond (a && false) fs [] ≡ []
closed true fs = refl
closed false fs = refl

either_none : (a : Bool) (fs : List Finding) → fs ≡ [] → cond a fs [] ≡ []
either_none true fs h = h
either_none false fs h = refl

known_parent : (objects : List (Tree × Tree)) (o : Tree) (w : Option Tree)
    → list_any (is_known objects) (items_if w) ≡ true → part_of objects o w ≡ []
known_parent objects o None h = refl
known_parent objects o (Some t) h = ap (λ b. cond (is_array (kind_of t) && not b) (one NoParent o) []) h
    ∙ closed _ _

pub known_part : (objects : List (Tree × Tree)) (m : Tree × Tree)
    → list_any (is_known objects) (listed_in (chars (codes "parents")) m.1) ≡ true → part objects m ≡ []
known_part objects m h = search (arith, either_none, known_parent)

-- ---- two walks

-- the parents of a city object, and that a part has one
abbrev pub parents_and_part : List (Tree × Tree) → Tree × Tree → List Finding
parents_and_part objects m = parents objects m ++ part objects m

comm : (o : Option Finding) (fs gs : List Finding) → least (least o fs) gs ≡ least (least o gs) fs
comm o fs gs = sym (least-append o fs gs) ∙ least-swap o fs gs ∙ least-append o gs fs

-- two walks tell what one does
pub walks : (objects ms : List (Tree × Tree)) (o : Option Finding)
    → least (least o (flat_map (children objects) ms)) (flat_map (parents_and_part objects) ms)
    ≡ least o (flat_map (object_links objects) ms)
walks objects [] o = refl
walks objects (m ∷ ms) o =
    let c = children objects m in
    let p = parents objects m in
    let q = part objects m in
    let cs = flat_map _ ms in
    let ps = flat_map _ ms in
    let all = flat_map _ ms in
    ap (λ x. least x ((p ++ q) ++ ps)) (least-append o c cs)
    ∙ least-append _ (p ++ q) ps
    ∙ ap (λ x. least x ps) (comm _ cs (p ++ q))
    ∙ walks objects ms _
    ∙ ap (λ x. least x all) (least-append _ p q ∙ ap (λ x. least x q) (sym (least-append o c p))
    ∙ sym (least-append o (c ++ p) q))
    ∙ sym (least-append o (c ++ p ++ q) all)
