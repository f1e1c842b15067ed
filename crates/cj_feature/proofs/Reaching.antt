-- What is reached from an id, and marks that fit.
use Rattle.cj_feature.proofs.Common.{All-contains, Bool, Contains, Contains-append_cases, Contains-append_left, Contains-append_right, IsIn, IsReached, List, Reached, Some, Tree, [], ap, arith, cases_Bool, chars, child, codes, contains_cases, contains_first, contains_later, contains_none, filter, has_item, inl, inr, is_reached, itself, length, listed_in, not, reached_from, refl, same_text, subst, suc, sym, text_of, true, zero, ℕ, ◌+◌, ◌∙◌, ◌∷◌, ◌≡◌, ◌≤◌, ◌⊎◌, AreValuesInOrder, HaveMarks, IsBeside, IsMarkedBy, IsReachedObject, IsToMark, Node, false, false_from_ne_true, feature, line_of, member_of, members_of, source_of, start_of, tokens_in, tree, ◌<◌}
use Rattle.std.proofs.lemmas.List.Filters.{length-filter_both}
use Rattle.cj_feature.specs.Meaning.Reached.{list_child, reached_of}
use Rattle.std.proofs.lemmas.Bool.{cond_both}
use Rattle.std.proofs.lemmas.List.Elements.{All-contains_itself, All-filter, filter_passes}
use Rattle.cj_feature.proofs.LinkFaults.{from-any, from-listed, from-texts, to-any, to-listed, to-texts}
use Rattle.cj_feature.specs.inner.Marking.{ListMarks, MarksFit, IsUnmarked, IsNext}
use Rattle.cj_feature.specs.ReachedMarks.{AreMarks}
use Rattle.cj_feature.proofs.Walking.{marked-back, marked-beside, shown-beside}

-- ---- what is reached from an id: told as the least set, and by rounds that compute. Both say the same

-- ---- elements that pass a test

from-filter : {X : Type 0} (p : X → Bool) (xs : List X) (x : X) → Contains (filter p xs) x → Contains xs x
    × (p x ≡ true)
from-filter p xs x h = (
  All-contains (Contains xs) _ x (All-filter p (Contains xs) xs (All-contains_itself xs)) h,
  All-contains (λ y. p y ≡ true) _ x (filter_passes p xs) h,
)

to-filter : {X : Type 0} (p : X → Bool) (xs : List X) (x : X) → Contains xs x → p x ≡ true → Contains (filter p xs) x
to-filter p [] x h e = absurd (contains_none x h)
to-filter p (y ∷ xs) x h e =
    elim (contains_cases y xs x h) [
      | inl same ↦
          let passes : p y ≡ true = ap p same ∙ e in
          rw passes (subst (Contains (y ∷ filter p xs)) same (contains_first y (filter p xs)))
      | inr k ↦
          let later = to-filter p xs x k e in
          cond_both (p y) (y ∷ filter p xs) (filter p xs) (λ zs. Contains zs x)
          (λ _. contains_later y (filter p xs) x later) (λ _. later)
    ]

-- one of two tests passes
parted : {X : Type 0} (p : X → Bool) (xs : List X) (x : X) → Contains xs x → Contains (filter p xs) x
    ⊎ Contains (filter (λ y. not (p y)) xs) x
parted p xs x h =
    elim (cases_Bool _) [
      | inl e ↦ inl (to-filter p xs x h e)
      | inr e ↦ inr (to-filter (λ y. not _) xs x h (ap not e))
    ]

-- ---- rounds

none-listed : (ms : List (Tree × Tree)) → filter (list_child []) ms ≡ []
none-listed [] = refl
none-listed (x ∷ ms) = none-listed ms

-- where none was taken last, none is taken any more
none-taken : (n : ℕ) (others : List (Tree × Tree)) (m : Tree × Tree) → Contains (reached_from n [] others) m → ⊥
unfolding reached_from
none-taken zero others m h = contains_none m h
none-taken (suc n) others m h = none-taken n _ m (rw (none-listed _) at h)

-- one is taken, and fewer are left
fewer : (next rest : List (Tree × Tree)) (n : ℕ) → length next + length rest ≤ suc n → (next ≡ []) ⊎ (length rest ≤ n)
fewer [] rest n l = inl refl
fewer (t ∷ next) rest n l = inr (omega arith)

-- those that were taken are among what is reached
taken-reached : (n : ℕ) (taken others : List (Tree × Tree)) (m : Tree × Tree) → Contains taken m
    → Contains (reached_from n taken others) m
unfolding reached_from
taken-reached zero taken others m h = h
taken-reached (suc n) taken others m h = Contains-append_left _ _ m h

-- another that one of what is reached lists is reached too, where there are rounds enough
closed : (n : ℕ) (taken others : List (Tree × Tree)) → length others ≤ n → (a b : Tree × Tree)
    → Contains (reached_from n taken others) a → Contains others b
    → has_item (listed_in (chars (codes "children")) a.1) b.0 ≡ true → Contains (reached_from n taken others) b
unfolding reached_from
closed zero taken [] l a b h k e = absurd (contains_none b k)
closed zero taken (o ∷ others) l a b h k e = absurd (omega arith)
closed (suc n) taken others l a b h k e =
    let next = filter (list_child taken) others in
    let rest = filter (λ m. not (list_child taken m)) others in
    let later = reached_from n next rest in
    let here = λ (y : Contains next b). Contains-append_right taken later b (taken-reached n next rest b y) in
    elim (parted (list_child taken) others b k) [
      | inl y ↦ here y
      | inr y ↦ elim (Contains-append_cases taken later a h) [
        | inl x ↦ here (to-filter (list_child taken) others b k
            (to-any (λ p. has_item (listed_in (chars (codes "children")) p.1) b.0) taken a x e))
        | inr x ↦
            let both = length-filter_both (list_child taken) (λ m. not (list_child taken m)) (λ m. refl) others in
            elim (fewer next rest n (omega arith)) [
              | inl none ↦ absurd (none-taken n rest a (rw none at x))
              | inr less ↦ Contains-append_right taken later b (closed n next rest less a b x y e)
            ]
      ]
    ]

-- ---- both say the same

-- what is reached is in the feature
in-feature : (objects : List (Tree × Tree)) (main x : List ℕ) → Reached objects main x → IsIn objects x
in-feature objects main x (itself i) = i
in-feature objects main x (child a b r c i) = i

module _ (objects : List (Tree × Tree)) (id : Tree) where
  -- what has the name of the id is reached
  pub own-reached : (m : Tree × Tree) → Contains objects m → same_text m.0 id ≡ true → IsReached objects id m.0
  own-reached m held same = search (arith, from-texts, itself)

  -- and so is what one of those lists
  pub child-reached : (p m : Tree × Tree) (item : Tree) (t : List ℕ) → IsReached objects id p.0 → Contains objects p
      → Contains (listed_in (chars (codes "children")) p.1) item → Contains objects m → text_of m.0 ≡ Some t
      → text_of item ≡ Some t → IsReached objects id m.0
  child-reached p m item t r held listed there named text = search (arith, child, from-listed)

  rounds : (n : ℕ) (taken others : List (Tree × Tree))
      → ((m : Tree × Tree) → Contains taken m → Contains objects m × IsReached objects id m.0)
      → ((m : Tree × Tree) → Contains others m → Contains objects m)
      → (m : Tree × Tree) → Contains (reached_from n taken others) m → Contains objects m × IsReached objects id m.0
  unfolding reached_from
  rounds zero taken others all among m h = all m h
  rounds (suc n) taken others all among m h =
      let next = filter (list_child taken) others in
      let rest = filter (λ m. not (list_child taken m)) others in
      let more : (o : Tree × Tree) → Contains next o → Contains objects o × IsReached objects id o.0 = λ o k.
      let r = from-filter (list_child taken) others o k in
      let p = from-any (λ p. has_item (listed_in (chars (codes "children")) p.1) o.0) taken r.1 in
      let i = from-any (λ x. same_text x o.0) (listed_in (chars (codes "children")) p.0.1) p.2 in
      let t = from-texts (text_of i.0) (text_of o.0) i.2 in
      let q = all p.0 p.1 in
      (among o r.0, child-reached p.0 o i.0 t.0 q.1 q.0 i.1 (among o r.0) t.2 t.1) in
      elim (Contains-append_cases taken (reached_from n next rest) m h) [
        | inl k ↦ all m k
        | inr k ↦ rounds n next rest more (λ o i. among o (from-filter (λ m. not (list_child taken m)) others o i).0) m
            k
      ]

  pub is-reached : (name : Tree) → is_reached objects id name ≡ true → IsReached objects id name
  unfolding is_reached
  is-reached name h =
      let r = from-any (λ m. same_text m.0 name) (reached_of objects id) h in
      let one = rounds (length objects) (filter (λ m. same_text m.0 id) objects)
      (filter (λ m. not (same_text m.0 id)) objects)
      (λ m k. let f = from-filter (λ m. same_text m.0 id) objects m k in (f.0, own-reached m f.0 f.1))
      (λ m k. (from-filter (λ m. not (same_text m.0 id)) objects m k).0) r.0 r.1 in
      let t = from-texts (text_of r.0.0) (text_of name) r.2 in
      let is = one.1 in
      record { main = is.main; from = is.from; own = is.own; named = t.2 ∙ sym t.1 ∙ is.named; reached = is.reached }

  taken : (main : List ℕ) → text_of id ≡ Some main → (x : List ℕ) → Reached objects main x → (m : Tree × Tree)
      → Contains objects m → text_of m.0 ≡ Some x → Contains (reached_of objects id) m
  taken main from x (itself i) m held t = search (arith, taken-reached, to-filter, to-texts)
  taken main from x (child a b r c i) m held t =
      let o = c.object in
      let item = to-any (λ y. same_text y m.0) (listed_in (chars (codes "children")) o.1) c.item
      (to-listed (chars (codes "children")) o.1 c.item c.listed)
      (to-texts (text_of c.item) (text_of m.0) b c.text t) in
      let both = length-filter_both (λ m. same_text m.0 id) (λ m. not (same_text m.0 id)) (λ m. refl) objects in
      elim (parted (λ m. same_text m.0 id) objects m held) [
        | inl k ↦ taken-reached (length objects) _ _ m k
        | inr k ↦ closed (length objects) (filter (λ m. same_text m.0 id) objects)
            (filter (λ m. not (same_text m.0 id)) objects) (omega arith) o m (taken main from a r o c.held c.named) k
            item
      ]

  pub to-reached : (name : Tree) → IsReached objects id name → is_reached objects id name ≡ true
  unfolding is_reached
  to-reached name r =
      let i = in-feature objects r.main r.own r.reached in
      to-any (λ m. same_text m.0 name) (reached_of objects id) i.object
      (taken r.main r.from r.own r.reached i.object i.held i.named)
      (to-texts (text_of i.object.0) (text_of name) r.own i.named r.named)

pub ruleset reached_both_ways = (is-reached, to-reached)

-- ---- marks that fit: those of the city objects that are reached, seen from a node of the line and from its tokens

-- a value has one name
pub one-name : (ms : List (Tree × Tree)) → AreValuesInOrder ms → (m n : Tree × Tree) → Contains ms m → Contains ms n
    → m.1 ≡ n.1 → m.0 ≡ n.0
one-name [] o m n h k e = absurd (contains_none m h)
one-name (x ∷ ms) o m n h k e =
    let later = λ (z : Tree × Tree) (at : Contains ms z). All-contains (λ z. start_of x.1 < start_of z.1) ms z o.0 at in
    elim (contains_cases x ms m h) [
      | inl a ↦ elim (contains_cases x ms n k) [
        | inl b ↦ ap (λ (z : Tree × Tree). z.0) (sym a ∙ b)
        | inr b ↦ absurd (omega (arith, later n b, ap (λ (z : Tree × Tree). start_of z.1) a, ap start_of e))
      ]
      | inr a ↦ elim (contains_cases x ms n k) [
        | inl b ↦ absurd (omega (arith, later m a, ap (λ (z : Tree × Tree). start_of z.1) b, ap start_of e))
        | inr b ↦ one-name ms o.1 m n a b e
      ]
    ]

-- a city object has a mark where its name is reached, and else none
module _ (objects : Node) (id name t : Tree) (fit : MarksFit objects id)
    (held : Contains (members_of (tree objects)) (name, t)) where
  pub marked-reached : AreValuesInOrder (members_of (tree objects)) → IsMarkedBy objects t
      → is_reached (members_of (tree objects)) id name ≡ true
  marked-reached order h =
      let r = (fit t).0 h in
      let same = one-name (members_of (tree objects)) order (r.0, t) (name, t) r.1 held refl in
      to-reached (members_of (tree objects)) id name (subst (λ n. IsReached (members_of (tree objects)) id n) same r.2)

  pub unmarked-unreached : (IsMarkedBy objects t → ⊥) → is_reached (members_of (tree objects)) id name ≡ false
  unmarked-unreached none =
      false_from_ne_true _ (λ yes. none ((fit t).1 name held (is-reached (members_of (tree objects)) id name yes)))

-- what is reached in a feature, told of its id and its city objects
module _ (feature id objects : Tree) (i : member_of (chars (codes "id")) feature ≡ Some id)
    (o : member_of (chars (codes "CityObjects")) feature ≡ Some objects) where
  pub reached-in : (t : Tree) → IsReachedObject feature t → (name : Tree) × Contains (members_of objects) (name, t)
      × IsReached (members_of objects) id name
  reached-in t r = search arith

  pub reached-out : (name t : Tree) → Contains (members_of objects) (name, t)
      → IsReached (members_of objects) id name → IsReachedObject feature t
  reached-out name t held reached = search arith

-- the marks of a feature fit its city objects
pub fit : (f n : Node) (id : Tree) → member_of (chars (codes "id")) (tree f) ≡ Some id
    → member_of (chars (codes "CityObjects")) (tree f) ≡ Some (tree n) → IsBeside f n
    → AreMarks (tree f) (line_of f) (tokens_in (source_of f)) → MarksFit n id
fit f n id i o b marks = λ t. (
  λ h. reached-in _ id _ i o t ((marks t).0 (marked-beside f n b t h)),
  λ name held reached.
      marked-back f n b t ((marks t).1 (reached-out _ id _ i o _ t held reached)),
)

-- where all of the id's name have marks, and with each one that has a mark all that it lists, all that are reached have
-- marks
pub all-marked : (objects : Node) (id : Tree) (main : List ℕ) → text_of id ≡ Some main
    → HaveMarks objects (members_of (tree objects)) id → ListMarks objects (members_of (tree objects))
    → (x : List ℕ) → Reached (members_of (tree objects)) main x → (m : Tree × Tree)
    → Contains (members_of (tree objects)) m → text_of m.0 ≡ Some x → IsMarkedBy objects m.1
all-marked objects id main t first listed x (itself i) m held named =
    first m held (to-texts _ _ _ named t)
all-marked objects id main t first listed x (child a b r c i) m held named =
    search (arith, to-listed, to-texts, all-marked _ id _ t first listed a r _ c.held c.named)

-- ---- the next city object to mark, among those of a feature: a node of it, and that of its city objects beside it
module _ (f n : Node) (id : Tree) (i : member_of (chars (codes "id")) (tree f) ≡ Some id)
    (o : member_of (chars (codes "CityObjects")) (tree f) ≡ Some (tree n)) (b : IsBeside f n) where
  to-mark : (item : Tree) (number : ℕ) (u : IsUnmarked n item number)
      → (((t : Tree) → IsMarkedBy f t → IsReachedObject (tree f) t) → IsReached (members_of (tree n)) id u.name)
      → IsToMark (tree f) (line_of f) (tokens_in (source_of f)) number
  to-mark item number u reached = search (arith, shown-beside, marked-back, reached-out)

  pub first-to-mark : (number : ℕ) → IsUnmarked n id number
      → IsToMark (tree f) (line_of f) (tokens_in (source_of f)) number
  first-to-mark number u =
      to-mark id _ u (λ sound. own-reached _ id (u.name, u.object) u.held u.named)

  pub next-to-mark : (number : ℕ) → IsNext n number → IsToMark (tree f) (line_of f) (tokens_in (source_of f)) number
  next-to-mark number x =
      let u = x.listed.unmarked in
      let item = x.listed.item in
      let text = from-texts _ _ u.named in
      to-mark _ _ u (λ sound.
      let r = reached-in _ id _ i o _
      (sound _ (marked-beside f n b _ x.marked)) in
      child-reached _ id (r.0, x.parent.1) (u.name, u.object) _ _ r.2 r.1 x.listed.held
      u.held text.1 text.2)

  pub all-are-marked : HaveMarks n (members_of (tree n)) id → ListMarks n (members_of (tree n)) → (t : Tree)
      → IsReachedObject (tree f) t → IsMarkedBy f t
  all-are-marked first listed t r =
      let there = reached-in _ id _ i o t r in
      let from = there.2 in
      marked-beside f n b t
      (all-marked n id _ from.from first listed _ from.reached (there.0, t) there.1 from.named)
