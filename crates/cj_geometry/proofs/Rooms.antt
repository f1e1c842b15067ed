-- What a walk over names leaves in the room.
use Rattle.cj_geometry.proofs.Common.{All, All-permutation, AreLeast, Ascend, Bool, Contains, HoldNames, IfSome, IsHeldName, IsPermutation, IsWorded, List, None, Option, Some, Source, TakeOne, Tree, WordedName, [], ap, arith, compare_worded, drop, false, get_or, inl, inr, is_above, is_below, is_earlier, is_lt, is_past, is_some, last_of, length, length-append, length-drop, length-take-le, limit_in, map, name_in, names_in, names_of, refl, set, sym, take, true, ℕ, ◌&&◌, ◌++◌, ◌+◌, ◌<◌, ◌∙◌, ◌∷◌, ◌≡◌, ◌≤◌, ◌⊎◌}
use Rattle.std.proofs.lemmas.Grind.{common_steps}
use Rattle.std.proofs.lemmas.List.{get_or-map, length-map, map-append, take_more_set}
use Rattle.std.proofs.lemmas.List.Elements.{All-contains, All-head, All-tail, All-push, All-map, Contains-get_or, Contains-append_left, Contains-append_right, Contains-append_cases, Contains-push, All-contains_itself, All-nil}
use Rattle.std.proofs.lemmas.List.Sorted.{length_permutation, Contains-permutation, IsPermutation-sym}
use Rattle.cj_geometry.proofs.Names.{earlier_itself, earlier_not_back, on_upto, upto_upto, both_sides, none_true, contains_cases, contains_first, contains_later, contains_none, IsPast, HaveNoGap, past_above, none_past, last_past}
use Rattle.cj_geometry.proofs.Distinct.{less_as_earlier, AreNext, left_above, fewer_left}

-- ---- lists

pub contains_map : {X Y : Type 0} (f : X → Y) (xs : List X) (x : X) → Contains xs x → Contains (map f xs) (f x)
contains_map f xs x c = search (arith, get_or-map, Contains-get_or, length-map)

pub contains_unmap : {X Y : Type 0} (f : X → Y) (xs : List X) (y : Y) → Contains (map f xs) y → (x : X) × Contains xs x
    × (f x ≡ y)
contains_unmap f [] y c = absurd (contains_none y c)
contains_unmap f (x ∷ xs) y c =
    elim (contains_cases (f x) (map f xs) y c) [
      | inl e ↦ (x, contains_first x xs, e)
      | inr d ↦ let r = contains_unmap f xs y d in (r.0, contains_later x xs r.0 r.1, r.2)
    ]

-- where the room is full, it holds what was in it and the name
pub full_least : {s : Source} (room : List WordedName) (n : ℕ) (e : WordedName) {least : List WordedName}
    (new : List WordedName)
    {c : WordedName} → n < length room → length (set room n e) ≤ n + 1 → AreLeast s (set room n e) least c
    → take (length least) new ≡ least → AreLeast s (take n room ++ e ∷ []) (take (length least) new) c
full_least {s} room n e {least} new {c} l f a h =
    let all : take (n + 1) (set room n e) ≡ set room n e = grind (arith, common_steps) in
    grind (arith, take_more_set)

-- ---- a walk begins, and passes a name over

pub holds_first : (s : Source) (names : List Tree) (floor : Option Tree) → HoldNames s names names floor None []
holds_first s names floor = search (arith, All-nil)

pub holds_passed : {s : Source} {names : List Tree} (left : List Tree) {floor ceiling : Option Tree}
    {es : List WordedName} (t : Tree)
    → is_above floor t && is_below ceiling t ≡ false → HoldNames s names (t ∷ left) floor ceiling es
    → HoldNames s names left floor ceiling es
holds_passed {s} left {floor} {ceiling} {es} t n h =
    record { held = h.held; whole = λ u c a b. still u a b (h.whole u c a b) }
  where
    still : (u : Tree) → is_above floor u ≡ true → is_below ceiling u ≡ true → Contains (names_in s es) u
        ⊎ Contains (t ∷ left) u → Contains (names_in s es) u ⊎ Contains left u
    still u a b (inl c) = inl c
    still u a b (inr c) =
        elim (contains_cases t left u c) [
          | inl e ↦ absurd (both_sides (rw (e, a) b) n)
          | inr d ↦ inr d
        ]

-- ---- a walk takes a name

below_under : (ceiling : Option Tree) (t : Tree) → is_below ceiling t ≡ true → is_past ceiling t ≡ false
below_under None t h = refl
below_under (Some c) t h = earlier_not_back t c h

pub holds_pushed : {s : Source} {names : List Tree} (left : List Tree) {floor ceiling : Option Tree}
    {es : List WordedName}
    {e : WordedName} → IsHeldName s names floor ceiling e → HoldNames s names (name_in s e ∷ left) floor ceiling es
    → HoldNames s names left floor ceiling (es ++ e ∷ [])
holds_pushed {s} {names} left {floor} {ceiling} {es} {e} i h = record {
  held = All-push (IsHeldName s names floor ceiling) es e h.held i;
  whole = λ u c a b. still u (h.whole u c a b);
}
  where
    still : (u : Tree) → Contains (names_in s es) u ⊎ Contains (name_in s e ∷ left) u
        → Contains (names_in s (es ++ e ∷ [])) u ⊎ Contains left u
    still u (inl c) =
        inl (rw map-append (Contains-append_left (names_in s es) (name_in s e ∷ []) u c))
    still u (inr c) =
        elim (contains_cases (name_in s e) left u c) [
          | inl f ↦ inl (rw f at (contains_map (name_in s) (es ++ e ∷ []) e (Contains-push es e)))
          | inr d ↦ inr d
        ]

-- ---- the room is full

front_among : {s : Source} {es front : List WordedName} {next : WordedName} → AreLeast s es front next
    → (e : WordedName) → Contains front e → Contains es e
front_among {es} {front} {next} a e c =
    Contains-permutation _ es e (IsPermutation-sym es _ a.permutation)
    (Contains-append_left front _ e c)

pub next_among : {s : Source} {es front : List WordedName} {next : WordedName} → AreLeast s es front next
    → Contains es next
next_among {es} {front} {next} a =
    search (arith, Contains-permutation, IsPermutation-sym, Contains-append_right, contains_first)

-- what comes before one that is not past the ceiling comes before the ceiling
below_more : (ceiling : Option Tree) (t u : Tree) → is_past ceiling u ≡ false → is_earlier t u ≡ true
    → is_below ceiling t ≡ true
below_more None t u h k = refl
below_more (Some c) t u h k = on_upto t u c k h

pub holds_least : {s : Source} {names left : List Tree} {floor ceiling : Option Tree} {es front : List WordedName}
    {next : WordedName} → HoldNames s names left floor ceiling es → AreLeast s es front next
    → HoldNames s names left floor (Some (name_in s next)) front
holds_least {s} {names} {left} {floor} {ceiling} {es} {front} {next} h a = record {
  held = λ k d l. held_on _ (Contains-get_or front k d l);
  whole = λ t c up b. still t b (h.whole t c up (below_more ceiling t (name_in s next) n.under b));
}
  where
    n : IsHeldName s names floor ceiling next
    n = All-contains (IsHeldName s names floor ceiling) es next h.held (next_among a)

    held_on : (e : WordedName) → Contains front e → IsHeldName s names floor (Some (name_in s next)) e
    held_on e c =
        let i = All-contains (IsHeldName s names floor ceiling) es e h.held (front_among a e c) in
        let l = All-contains (λ d. is_lt (compare_worded s next d) ≡ false) front e a.before c in
        record {
          word = i.word;
          named = i.named;
          above = i.above;
          under = sym (less_as_earlier s next e n.word i.word) ∙ l;
        }

    kept : (t : Tree) (e : WordedName) → is_earlier t (name_in s next) ≡ true → Contains es e → name_in s e ≡ t
        → Contains (names_in s front) t
    kept t e b c f =
        let i = All-contains (IsHeldName s names floor ceiling) es e h.held c in
        let b' : is_earlier (name_in s e) (name_in s next) ≡ true = ap (λ x. is_earlier x (name_in s next)) f ∙ b in
        elim (Contains-append_cases front (next ∷ a.others) e (Contains-permutation es _ e a.permutation c)) [
          | inl d ↦ rw f at (contains_map (name_in s) front e d)
          | inr d ↦ elim (contains_cases next a.others e d) [
            | inl g ↦ absurd (both_sides (ap (λ x. is_earlier (name_in s x) (name_in s next)) g ∙ b')
                (earlier_itself (name_in s next)))
            | inr o ↦ absurd (both_sides b'
                (sym (less_as_earlier s e next i.word n.word)
                ∙ All-contains (λ d. is_lt (compare_worded s d next) ≡ false) a.others e a.behind o))
          ]
        ]

    still : (t : Tree) → is_earlier t (name_in s next) ≡ true → Contains (names_in s es) t ⊎ Contains left t
        → Contains (names_in s front) t ⊎ Contains left t
    still t b (inl c) = let r = contains_unmap (name_in s) es t c in inl (kept t r.0 b r.1 r.2)
    still t b (inr c) = inr c

-- ---- one step of a walk

-- what a walk holds, where its ceiling is a name with its word; what is still to come are names, too
pub record HasGathered (s : Source) (names left : List Tree) (floor : Option Tree) (ceiling : Option WordedName)
    (es : List WordedName) : Type 0 where
  pub holds : HoldNames s names left floor (limit_in s ceiling) es
  pub word : IfSome ceiling (IsWorded s)
  pub rest : All (Contains names) left

pub gathered_first : (s : Source) (names : List Tree) (floor : Option Tree) → HasGathered s names names floor None []
gathered_first s names floor = record { holds = holds_first s names floor; word = tt; rest = All-contains_itself names }

pub gathered_passed : {s : Source} {names : List Tree} (left : List Tree) {floor : Option Tree}
    {ceiling : Option WordedName}
    (e : WordedName) (t : Tree) {es : List WordedName} → name_in s e ≡ t → is_above floor (name_in s e)
    && is_below (limit_in s ceiling) (name_in s e) ≡ false
    → HasGathered s names (t ∷ left) floor ceiling es → HasGathered s names left floor ceiling es
gathered_passed {s} {names} left {floor} {ceiling} e t f n g = record {
  holds = holds_passed left t (rw f at n) g.holds;
  word = g.word;
  rest = All-tail (Contains names) t left g.rest;
}

pub gathered_more : {s : Source} {names : List Tree} (left : List Tree) {floor : Option Tree}
    (ceiling next : Option WordedName)
    (e : WordedName) (t : Tree) (es new : List WordedName) → name_in s e ≡ t → IsWorded s e
    → is_above floor (name_in s e) ≡ true → is_below (limit_in s ceiling) (name_in s e) ≡ true
    → TakeOne s e es ceiling new next → HasGathered s names (t ∷ left) floor ceiling es
    → HasGathered s names left floor next new
gathered_more {s} {names} left {floor} ceiling next e t es new f w a b o g =
    let i : IsHeldName s names floor (limit_in s ceiling) e = record {
      word = w;
      named = rw f (All-head (Contains names) t left g.rest);
      above = a;
      under = below_under _ (name_in s e) b;
    } in
    by_room o (holds_pushed left i (rw f g.holds))
  where
    rest : All (Contains names) left
    rest = All-tail (Contains names) t left g.rest

    by_room : TakeOne s e es ceiling new next → HoldNames s names left floor (limit_in s ceiling) (es ++ e ∷ [])
        → HasGathered s names left floor next new
    by_room (inl p) h = rw (p.0, p.1) (record { holds = h; word = g.word; rest = rest })
    by_room (inr p) h =
        let n = All-contains (IsHeldName s names floor (limit_in s ceiling)) (es ++ e ∷ []) p.0 h.held
        (next_among p.2) in
        rw p.1 (record { holds = holds_least h p.2; word = n.word; rest = rest })

-- ---- a walk has ended

-- what was gathered is there in another order, and nothing is left
still_there : (s : Source) {es : List WordedName} (fs : List WordedName) (t : Tree) → IsPermutation es fs
    → Contains (names_in s es) t ⊎ Contains [] t → Contains (names_in s fs) t
still_there s {es} fs t p (inl c) =
    let r = contains_unmap (name_in s) es t c in
    rw r.2 at (contains_map (name_in s) fs r.0 (Contains-permutation es fs r.0 p r.1))
still_there s fs t p (inr c) = absurd (contains_none t c)

gap_none : {s : Source} {ns : List Tree} {floor ceiling : Option Tree} {es : List WordedName} (fs : List WordedName)
    → HoldNames s ns [] floor ceiling es → IsPermutation es fs → HaveNoGap ns floor (names_in s fs)
gap_none {s} {ns} {floor} {ceiling} {es} fs h p = λ t c a. by_side _ t refl c a
  where
    behind : (o : Option Tree) (t u : Tree) → is_below o t ≡ false → is_past o u ≡ false → is_earlier t u ≡ false
    behind None t u b k = absurd (both_sides refl b)
    behind (Some c) t u b k = upto_upto u c t k b

    by_side : (v : Bool) (t : Tree) → is_below ceiling t ≡ v → Contains ns t → is_above floor t ≡ true
        → Contains (names_in s fs) t ⊎ All (λ u. is_earlier t u ≡ false) (names_in s fs)
    by_side true t b c a = inl (still_there s fs t p (h.whole t c a b))
    by_side false t b c a =
        inr (All-map (λ u. is_earlier t u ≡ false) (name_in s) fs
        (All-permutation (λ e. is_earlier t (name_in s e) ≡ false) es fs p
        (λ k d l. behind ceiling t (name_in s (get_or es k d)) b (h.held k d l).under)))

pub are_next : {s : Source} (ms : List (Tree × Tree)) {floor ceiling : Option Tree} {es : List WordedName}
    (fs : List WordedName)
    → HoldNames s (names_of ms) [] floor ceiling es → IsPermutation es fs → Ascend (names_in s fs)
    → AreNext ms floor (names_in s fs)
are_next {s} ms {floor} {ceiling} {es} fs h p a =
    let moved = All-permutation (IsHeldName s (names_of ms) floor ceiling) es fs p h.held in
    record {
      ascend = a;
      named = All-map (Contains (names_of ms)) (name_in s) fs (λ k d l. (moved k d l).named);
      past = All-map (IsPast floor) (name_in s) fs
          (grind (arith, past_above));
      no_gap = gap_none fs h p;
    }

-- where there is no ceiling, no name is left above the last
pub none_left : (s : Source) (ms : List (Tree × Tree)) (floor : Option Tree) (es fs : List WordedName)
    → HoldNames s (names_of ms) [] floor None es → IsPermutation es fs → Ascend (names_in s fs)
    → (t : Tree) → Contains (names_of ms) t → is_above (last_of floor (names_in s fs)) t ≡ false
none_left s ms floor es fs h p a t c =
    let n = are_next ms fs h p a in
    none_true (is_above (last_of floor (names_in s fs)) t) (λ k. both_sides k (none_past floor (names_in s fs) t a
    (still_there s fs t p (h.whole t c (last_past floor (names_in s fs) a n.past t k) refl))))

-- a part of the room that was put in order has as many names
pub room_kept : (n : ℕ) (room fs : List WordedName) → n ≤ length room → IsPermutation (take n room) fs
    → length (fs ++ drop n room) ≡ length room
room_kept n room fs h p =
    let a = length_permutation (take n room) fs p in
    let b = length-take-le n room h in
    grind (arith, length-drop, length-append)

-- the first of the names that a walk gathered is above the floor
pub first_held : {s : Source} (ms : List (Tree × Tree)) {floor ceiling : Option Tree} (es fs : List WordedName)
    → HoldNames s (names_of ms) [] floor ceiling es → IsPermutation es fs → Ascend (names_in s fs) → 0 < length es
    → left_above (names_of ms) (last_of floor (names_in s fs)) < left_above (names_of ms) floor
first_held ms [] fs h p a l = absurd (omega arith)
first_held {s} ms {floor} {ceiling} (e ∷ es) fs h p a l =
    let i = All-head (IsHeldName s (names_of ms) floor ceiling) e es h.held in
    fewer_left (name_in s e) (are_next ms fs h p a)
    (contains_map (name_in s) fs e (Contains-permutation (e ∷ es) fs e p (contains_first e es))) i.above

pub none_there : (o : Option WordedName) → is_some o ≡ false → o ≡ None
none_there None h = refl
none_there (Some e) h = cc
