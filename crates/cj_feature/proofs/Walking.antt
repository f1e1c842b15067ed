-- Walks over the city objects of a feature, and the marks that they set.
use Rattle.cj_feature.proofs.Common.{ArePassed, IsMarked, IsNoted, List, Noted, Token, Tree, [], ap, arith, cases_eq, cond, false, has_mark, inl, inr, is_marked_at, length, refl, spans_of, suc, tree_at, true, zero, ℕ, ◌+◌, ◌<◌, ◌∙◌, ◌∷◌, ◌≡◌, ◌≢◌, ◌⊎◌, Contains, IfNone, IsBeside, IsMarkedBy, Node, None, Option, Some, contains_cases, contains_first, contains_later, line_of, members_left, members_line, members_of, members_source, source_of, subst, sym, tokens_in, tree, trees}
use Rattle.cj_spans.specs.View.{YieldsMember}
use Rattle.cj_spans.specs.declared.node.Members.{Members}

-- ---- marks set one after another

-- how many have no mark
abbrev pub unmarked_count : List Token → ℕ
unmarked_count [] = 0
unmarked_count (t ∷ ts) = cond (has_mark t) 0 1 + unmarked_count ts

count-same : (ts us : List Token) → length us ≡ length ts → ((k : ℕ) → is_marked_at us k ≡ is_marked_at ts k)
    → unmarked_count us ≡ unmarked_count ts
count-same [] [] l h = refl
count-same [] (u ∷ us) l h = absurd (omega arith)
count-same (t ∷ ts) [] l h = absurd (omega arith)
count-same (t ∷ ts) (u ∷ us) l h =
    let here = h 0 in
    let later = count-same ts us (omega arith) (λ k. h (suc k)) in
    ap (λ b. cond b 0 1 + unmarked_count us) here ∙ ap (λ n. cond (has_mark t) 0 1 + n) later

-- one more mark, one fewer without
pub count-less : (ts us : List Token) (n : ℕ) → length us ≡ length ts → n < length ts → is_marked_at ts n ≡ false
    → is_marked_at us n ≡ true → ((k : ℕ) → k ≢ n → is_marked_at us k ≡ is_marked_at ts k)
    → unmarked_count us < unmarked_count ts
count-less [] us n l w h g o = absurd (omega arith)
count-less (t ∷ ts) [] n l w h g o = absurd (omega arith)
count-less (t ∷ ts) (u ∷ us) zero l w h g o =
    let later = count-same ts us (omega arith) (λ k. o (suc k) (λ e. absurd (omega arith))) in
    let a = ap (λ b. cond b 0 1 + unmarked_count us) g in
    let b = ap (λ b. cond b 0 1 + unmarked_count ts) h in
    less _ _ _
    _ a b later
  where
    less : (x y m n : ℕ) → x ≡ 0 + m → y ≡ 1 + n → m ≡ n → x < y
    less x y m n a b c = omega arith
count-less (t ∷ ts) (u ∷ us) (suc n) l w h g o =
    let here = o 0 (λ e. absurd (omega arith)) in
    let later = count-less ts us n (omega arith) (omega arith) h g (λ k ne. o (suc k) (λ e. ne (omega arith))) in
    more _ _ _ _
    (ap (λ b. cond b 0 1) here) later
  where
    more : (x y m n : ℕ) → x ≡ y → m < n → x + m < y + n
    more x y m n a b = omega arith

-- what has a mark after one more is set, is what has been given it, or had one
pub marked-more : (line : List ℕ) (ts us : List Token) (n : ℕ) (t : Tree) → spans_of us ≡ spans_of ts
    → ((k : ℕ) → k ≢ n → is_marked_at us k ≡ is_marked_at ts k) → IsMarked line us t
    → (tree_at line (spans_of ts) n ≡ t) ⊎ IsMarked line ts t
marked-more line ts us n t s o m = search (arith, cases_eq)

-- ---- a walk over the city objects of a feature: what is left of it

-- nodes of one line and its tokens
module _ (m n : Node) (b : IsBeside m n) where
  pub marked-beside : (t : Tree) → IsMarkedBy n t → IsMarkedBy m t
  marked-beside t h = rw (b.0, b.1) at h

  pub marked-back : (t : Tree) → IsMarkedBy m t → IsMarkedBy n t
  marked-back t h = rw (b.0, b.1) h

  pub shown-beside : (k : ℕ) (t : Tree) → tree_at (line_of n) (spans_of (tokens_in (source_of n))) k ≡ t
      → tree_at (line_of m) (spans_of (tokens_in (source_of m))) k ≡ t
  shown-beside k t h = rw (b.0, b.1) at h

-- one of a list is its first or one of the rest
pub next-or : {X : Type 0} (xs : List X) (x : X) (ys : List X) (y : X) → xs ≡ x ∷ ys → Contains xs y → (x ≡ y)
    ⊎ Contains ys y
next-or xs x ys y e h = contains_cases x ys y (subst (λ zs. Contains zs y) e h)

-- one more is passed, if it has a mark or its name is noted, and what was noted still is
pub passed-on : (objects : Node) (these xs ys : List (Tree × Tree)) (names more : List Noted) (x : Tree × Tree)
    → xs ≡ x ∷ ys → IsMarkedBy objects x.1 ⊎ IsNoted objects more x.0
    → ((t : Tree) → IsNoted objects names t → IsNoted objects more t) → ArePassed objects these xs names
    → ArePassed objects these ys more
passed-on objects these xs ys names more x e here kept passed m h =
    elim (passed m h) [
      | inl k ↦ elim (next-or xs x ys m e k) [
        | inl z ↦ inr (subst (λ (w : Tree × Tree). IsMarkedBy objects w.1 ⊎ IsNoted objects more w.0) z here)
        | inr later ↦ inl later
      ]
      | inr k ↦ inr (elim k [ inl marked ↦ inl marked | inr n ↦ inr (kept m.0 n) ])
    ]

-- what holds of the next one and of each of the rest, holds of each
pub each-more : {X : Type 0} (P : X → Type 0) (xs : List X) (x : X) (ys : List X) → xs ≡ x ∷ ys → P x
    → ((y : X) → Contains ys y → P y) → (y : X) → Contains xs y → P y
each-more P xs x ys e first later y h = search (arith, next-or)

-- the walk goes over some of these city objects, in their line
pub record Among (objects : Node) (w : Members) : Type 0 where
  pub among : (m : Tree × Tree) → Contains (members_left w) m → Contains (members_of (tree objects)) m
  pub line : members_line w ≡ line_of objects
  pub source : members_source w ≡ source_of objects

-- its next one, and the rest
module _ {objects : Node} {w : Members} (a : Among objects w) (p : Node × Node) (v : Members)
    (s : YieldsMember w (Some p) v) where
  pub first-among : Contains (members_of (tree objects)) (trees p)
  first-among = search (arith, contains_first)

  pub later-among : Among objects v
  later-among = record {
    among = λ n h. a.among n (subst (λ ms. Contains ms n) (sym s.0) (contains_later (trees p) _ n h));
    line = s.1 ∙ a.line;
    source = s.3 ∙ a.source;
  }

  pub beside : IsBeside objects p.1
  beside = (s.2.1 ∙ a.line, s.4.1 ∙ a.source)

-- of such a walk, what holds of each city object that is left holds of all
pub record Left (P : Tree × Tree → Type 0) (objects : Node) (w : Members) : Type 0 where
  pub walk : Among objects w
  pub all : ((m : Tree × Tree) → Contains (members_left w) m → P m) → (m : Tree × Tree)
      → Contains (members_of (tree objects)) m → P m

pub later-left : {P : Tree × Tree → Type 0} {objects : Node} {w : Members} → Left P objects w → (p : Node × Node)
    (v : Members) → YieldsMember w (Some p) v → P (trees p) → Left P objects v
later-left {P} {objects} {w} l p v s here = record {
  walk = later-among l.walk p v s;
  all = λ rest. l.all (each-more P (members_left w) (trees p) (members_left v) s.0 here rest);
}

pub if-none : {P Q : Type 0} (o : Option ℕ) → (P → Q) → IfNone o P → IfNone o Q
if-none None f h = f h
if-none (Some n) f h = tt
