-- The order of names, repeated ones, and neighbours.
use Rattle.cj_geometry.proofs.Common.{Finding, List, Option, Reason, Some, Tree, ap, are_same_texts, arith, least, one, start_of, sym, true, ℕ, ◌<◌, ◌≡◌, Bool, [], are_apart, cases_eq, distinct, false, get_or, inl, inr, length, length-set, members_of, refl, repeats, repeats_of, text_of, ◌%◌, ◌∙◌, ◌∷◌, ◌≤◌, Equal, Greater, Less, None, Ordering, compare_names, is_earlier, is_eq, is_lt, nat_cmp, ◌⊎◌, All, Ascend, Contains, DuplicateName, IfSome, is_above, last_of, neighbours, repeat_of, suc, zero, ◌++◌, nat_tests}
use Rattle.std.specs.Cmp.Lexicographic.{same_text, bytes_decides, nat_list_cmp_total, options_total, texts_ties}
use Rattle.std.proofs.Common.{◌≢◌, get_or-set_same, get_or-set_other}
use Rattle.std.specs.Prelude.{slice_set}
use Rattle.cj_spans.specs.Initials.{begin_apart, first_code_of}
use Rattle.std.proofs.lemmas.Bool.{false_from_ne_true, and_from, cond-true, lt-ltb}
use Rattle.std.specs.Cmp.{IsTotalOrder, tied_itself, then_total, on_total, nat_cmp_total}
use Rattle.std.specs.Ordering.{ordering_then, ordering_reverse}
use Rattle.cj_spans.specs.Order.{compare_texts}
use Rattle.std.proofs.lemmas.List.Elements.{All-contains, All-contains_itself, All-head, All-tail, Contains-append_left, Contains-append_right, Contains-append_cases}
use Rattle.cj_spans.specs.Meaning.Least.{list_found, HaveSame}
use Rattle.cj_spans.proofs.Findings.{least-append, least-swap, least_only, fold_least}

-- ---- what was found before a value hides a finding at it, and texts that pass the test are the same

-- what stands after what was found changes nothing
pub found_before : {o : Option Finding} (f : Finding) (t : Tree) → o ≡ Some f → f.place < start_of t → (r : Reason)
    → least o (one r t) ≡ o
found_before f t e l r = search arith

-- the test of one text tells that it is one
pub same_texts : (a b : Option (List ℕ)) → are_same_texts a b ≡ true → a ≡ b
same_texts (Some s) (Some t) h = ap Some (same_text s t (sym h))
same_texts _ _ h = cc

-- ---- names whose first characters have different slots are distinct

-- one name more
pub apart-on : (taken : List Bool) {all : List (Tree × Tree)} (rest : List (Tree × Tree)) (m : Tree × Tree) (c : ℕ)
    → all ≡ m ∷ rest
    → first_code_of m.0 ≡ Some c → get_or taken (c % 32) false ≡ false
    → are_apart taken all ≡ are_apart (slice_set taken (c % 32) true) rest
apart-on taken rest m c e code free = search arith

-- ---- what it says

-- the slot of each name is free
abbrev AreFree : List Bool → List (Tree × Tree) → Type 0
AreFree taken [] = Unit {0}
AreFree taken (m ∷ ms) = ((c : ℕ) × (first_code_of m.0 ≡ Some c) × (get_or taken (c % 32) false ≡ false))
    × AreFree taken ms

-- what is free after a slot is taken is another one, and was free before
pub still_free : (taken : List Bool) (s i : ℕ) → s < length taken → get_or (slice_set taken s true) i false ≡ false
    → (i ≢ s) × (get_or taken i false ≡ false)
still_free taken s i below free =
    elim (cases_eq i s) [
      | inl e ↦ absurd (cc (get_or-set_same taken s true false below))
      | inr n ↦ (n, sym (get_or-set_other taken s i true false n) ∙ free)
    ]

all_still_free : (taken : List Bool) (s : ℕ) → s < length taken → (ms : List (Tree × Tree))
    → AreFree (slice_set taken s true) ms → AreFree taken ms
all_still_free taken s below [] free = tt
all_still_free taken s below (m ∷ ms) free = search (arith, all_still_free taken s below ms free.1, still_free)

-- the first of names that are apart has a free slot, and the others are apart once that is taken
apart_parts : (taken : List Bool) (m : Tree × Tree) (ms : List (Tree × Tree)) → are_apart taken (m ∷ ms) ≡ true
    → (c : ℕ) × (first_code_of m.0 ≡ Some c) × (get_or taken (c % 32) false ≡ false)
    × (are_apart (slice_set taken (c % 32) true) ms ≡ true)
apart_parts taken m ms h = search arith

-- what are apart are free
all_free : (taken : List Bool) (ms : List (Tree × Tree)) → 32 ≤ length taken → are_apart taken ms ≡ true
    → AreFree taken ms
all_free taken [] room h = tt
all_free taken (m ∷ ms) room h =
    let a = apart_parts taken m ms h in
    let wide : 32 ≤ length (slice_set taken (a.0 % 32) true) =
    omega (arith, length-set taken (a.0 % 32) true, room) in
    grind (arith, all_free (slice_set taken (a.0 % 32) true) ms wide a.3, all_still_free)

-- texts of different first characters differ
others : (t u : Tree) (c d : ℕ) → first_code_of t ≡ Some c → first_code_of u ≡ Some d → d % 32 ≢ c % 32
    → are_same_texts (text_of u) (text_of t) ≡ false
others t u c d is other apart = search (arith, false_from_ne_true, same_texts)

-- none of the names repeats one whose slot was taken before
none_repeats : (t : Tree) (c : ℕ) → first_code_of t ≡ Some c → (taken : List Bool) → c % 32 < length taken
    → (ms : List (Tree × Tree)) → AreFree (slice_set taken (c % 32) true) ms → repeats_of t ms ≡ []
none_repeats t c is taken below [] free = refl
none_repeats t c is taken below (m ∷ ms) free =
    search (arith, none_repeats t c is taken below ms free.1, still_free, others)

-- names that are apart are distinct
pub distinct_apart : (taken : List Bool) (ms : List (Tree × Tree)) → 32 ≤ length taken → are_apart taken ms ≡ true
    → repeats ms ≡ []
distinct_apart taken [] room h = refl
distinct_apart taken (m ∷ ms) room h =
    let a = apart_parts taken m ms h in
    let more = slice_set taken (a.0 % 32) true in
    let wide : 32 ≤ length more = omega (arith, length-set taken (a.0 % 32) true, room) in
    grind (arith, distinct_apart more ms wide a.3, none_repeats, all_free)

-- names that begin apart are distinct
pub begin_distinct : (t : Tree) → begin_apart (members_of t) ≡ true → distinct t ≡ []
begin_distinct t h = distinct_apart _ (members_of t) (omega arith) h

-- ---- the order of names, and what neighbours in it tell

-- ---- one order of all names

pub order : IsTotalOrder compare_names
order = then_total (on_total text_of (options_total nat_list_cmp_total)) (on_total start_of nat_cmp_total)

less_is : (r : Ordering) → is_lt r ≡ true → r ≡ Less
less_is Less h = refl
less_is _ h = cc

pub earlier_itself : (t : Tree) → is_earlier t t ≡ false
earlier_itself t = ap is_lt (tied_itself order t)

pub earlier_on : (t u v : Tree) → is_earlier t u ≡ true → is_earlier u v ≡ true → is_earlier t v ≡ true
earlier_on t u v h k = ap is_lt (order.trans t u v (less_is _ h) (less_is _ k))

not_less : (r : Ordering) → is_lt r ≡ false → (r ≡ Equal) ⊎ (r ≡ Greater)
not_less Less h = cc
not_less Equal h = inl refl
not_less Greater h = inr refl

-- t is no later than u, which comes before v
pub upto_on : (t u v : Tree) → is_earlier u t ≡ false → is_earlier u v ≡ true → is_earlier t v ≡ true
upto_on t u v h k = elim (not_less _ h) [
  | inl e ↦ ap is_lt (sym (order.congr u t v e)) ∙ k
  | inr e ↦ earlier_on t u v (ap is_lt (order.antisymm t u ∙ ap ordering_reverse e)) k
]

-- t comes before u, which is no later than v
pub on_upto : (t u v : Tree) → is_earlier t u ≡ true → is_earlier v u ≡ false → is_earlier t v ≡ true
on_upto t u v h k = search (arith, not_less, order, earlier_on)

-- a test and its negation
pub both_sides : {b : Bool} → b ≡ true → b ≡ false → ⊥
both_sides {b} h k = cc

pub none_true : (b : Bool) → (b ≡ true → ⊥) → b ≡ false
none_true b f = false_from_ne_true b f

pub upto_upto : (t u v : Tree) → is_earlier u t ≡ false → is_earlier v u ≡ false → is_earlier v t ≡ false
upto_upto t u v h k = none_true _ (λ e. both_sides (on_upto v t u e h) k)

pub earlier_not_back : (t u : Tree) → is_earlier t u ≡ true → is_earlier u t ≡ false
earlier_not_back t u h = none_true _ (λ k. both_sides (earlier_on t u t h k) (earlier_itself t))

-- ---- names that neither comes before the other

tied_order : (t u : Tree) → is_earlier t u ≡ false → is_earlier u t ≡ false → compare_names t u ≡ Equal
tied_order t u h k = elim (not_less _ h) [
  | inl e ↦ e
  | inr e ↦ absurd (both_sides (ap is_lt (order.antisymm u t ∙ ap ordering_reverse e)) k)
]

then_equal : (r s : Ordering) → ordering_then r s ≡ Equal → (r ≡ Equal) × (s ≡ Equal)
then_equal Equal s h = (refl, h)
then_equal _ s h = cc

same_number : (m n : ℕ) → nat_cmp m n ≡ Equal → m ≡ n
same_number m n h = grind (arith, nat_tests)

pub same_by_order : (s t : Option (List ℕ)) → compare_texts s t ≡ Equal → s ≡ t
same_by_order None None h = refl
same_by_order (Some s) (Some t) h = ap Some ((bytes_decides s t).0 (texts_ties s t ∙ ap is_eq h))
same_by_order _ _ h = cc

pub record AreTied (t u : Tree) : Type 0 where
  pub text : text_of t ≡ text_of u
  pub start : start_of t ≡ start_of u

pub tied : (t u : Tree) → is_earlier t u ≡ false → is_earlier u t ≡ false → AreTied t u
tied t u h k = search (arith, then_equal, tied_order, same_by_order, same_number)

-- ---- names of one text

text_itself : {s t : Option (List ℕ)} → s ≡ t → compare_texts s t ≡ Equal
text_itself {s} e = rw (← e) (tied_itself (options_total nat_list_cmp_total) s)

pub less_number : (m n : ℕ) → m < n → nat_cmp m n ≡ Less
less_number m n h = grind (arith, nat_tests)

number_less : (m n : ℕ) → nat_cmp m n ≡ Less → m < n
number_less m n h = grind (arith, nat_tests)

-- where they start orders them
pub earlier_by_start : (t u : Tree) → text_of t ≡ text_of u → start_of t < start_of u → is_earlier t u ≡ true
earlier_by_start t u e h = search (arith, text_itself, less_number)

pub start_by_earlier : (t u : Tree) → text_of t ≡ text_of u → is_earlier t u ≡ true → start_of t < start_of u
start_by_earlier t u e h = search (arith, number_less, less_is, text_itself)

-- what stands between two names of one text has it too
between_by : (t u v : Tree) (r : Ordering) → compare_texts (text_of u) (text_of v) ≡ r → text_of t ≡ text_of v
    → is_earlier u t ≡ false → is_earlier u v ≡ true → text_of u ≡ text_of v
between_by t u v Less e s h k = search (arith, both_sides)
between_by t u v Equal e s h k = same_by_order (text_of u) (text_of v) e
between_by t u v Greater e s h k = search (arith, both_sides)

pub text_between : (t u v : Tree) → text_of t ≡ text_of v → is_earlier u t ≡ false → is_earlier u v ≡ true
    → text_of u ≡ text_of v
text_between t u v s h k = between_by t u v _ refl s h k

-- ---- repeated names, told by neighbours in the order of names

-- ---- findings told in another order, or again

comm : (o : Option Finding) (fs gs : List Finding) → least (least o fs) gs ≡ least (least o gs) fs
comm o fs gs = sym (least-append o fs gs) ∙ least-swap o fs gs ∙ least-append o gs fs

-- findings that are among others add nothing to them
same_beside : (ks fs gs : List Finding) → All (Contains gs) fs → HaveSame (ks ++ gs) (ks ++ (fs ++ gs))
same_beside ks fs gs a = λ f. (
  λ c. elim (Contains-append_cases ks gs f c) [
    | inl h ↦ Contains-append_left ks (fs ++ gs) f h
    | inr h ↦
        Contains-append_right ks (fs ++ gs) f (Contains-append_right fs gs f h)
  ],
  λ c. elim (Contains-append_cases ks (fs ++ gs) f c) [
    | inl h ↦ Contains-append_left ks gs f h
    | inr h ↦ Contains-append_right ks gs f
        (elim (Contains-append_cases fs gs f h) [ inl g ↦ All-contains (Contains gs) fs f a g | inr g ↦ g ])
  ],
)

pub absorbed : (o : Option Finding) (fs gs : List Finding) → All (Contains gs) fs → least (least o fs) gs ≡ least o gs
absorbed o fs gs a = sym (least-append o fs gs)
    ∙ least_only _ _ (least o gs) _
    (same_beside (list_found o) fs gs a) (fold_least o gs) (fold_least o (fs ++ gs))

-- ---- lists

at_cases : {X : Type 0} (x : X) (xs : List X) {y : X} (k : ℕ) → k < length (x ∷ xs) → get_or (x ∷ xs) k y ≡ y → (x ≡ y)
    ⊎ Contains xs y
at_cases x xs zero l e = inl e
at_cases x xs (suc k) l e = inr (k, omega arith, e)

pub contains_cases : {X : Type 0} (x : X) (xs : List X) (y : X) → Contains (x ∷ xs) y → (x ≡ y) ⊎ Contains xs y
contains_cases x xs y c = at_cases x xs c.0 c.1 c.2

pub contains_first : {X : Type 0} (x : X) (xs : List X) → Contains (x ∷ xs) x
contains_first x xs = (0, omega arith, refl)

pub contains_later : {X : Type 0} (x : X) (xs : List X) (y : X) → Contains xs y → Contains (x ∷ xs) y
contains_later x xs y c = (suc c.0, omega arith, c.2)

pub contains_none : {X : Type 0} (y : X) → Contains [] y → ⊥
contains_none y c = absurd (omega arith)

-- ---- what is told of a name

-- a finding at the name changes nothing
abbrev pub IsHidden : Option Finding → Tree → Type 0
IsHidden o t = least o (one DuplicateName t) ≡ o

hidden_more : (o : Option Finding) (fs : List Finding) (t : Tree) → IsHidden o t → IsHidden (least o fs) t
hidden_more o fs t h = comm o fs (one DuplicateName t) ∙ ap (λ x. least x fs) h

hidden_now : (o : Option Finding) (t : Tree) → IsHidden (least o (one DuplicateName t)) t
hidden_now o t = search (arith, absorbed, All-contains_itself)

hidden_as : (o : Option Finding) (t u : Tree) → start_of t ≡ start_of u → IsHidden o t → IsHidden o u
hidden_as o t u e h = rw e at h

-- each name up to the floor that repeats an earlier one is told
abbrev pub AreDealt : List Tree → Option Finding → Option Tree → Type 0
AreDealt ns o floor = (t u : Tree) → Contains ns t → Contains ns u → are_same_texts (text_of u) (text_of t) ≡ true
    → start_of t < start_of u → is_above floor u ≡ false → IsHidden o u

-- a name above the floor is one of these, or comes before none of them
abbrev pub HaveNoGap : List Tree → Option Tree → List Tree → Type 0
HaveNoGap ns floor ts = (t : Tree) → Contains ns t → is_above floor t ≡ true → Contains ts t
    ⊎ All (λ u. is_earlier t u ≡ false) ts

-- what comes after the name comes after the floor
abbrev pub IsPast : Option Tree → Tree → Type 0
IsPast floor u = (t : Tree) → is_above (Some u) t ≡ true → is_above floor t ≡ true

pub past_above : (floor : Option Tree) (u : Tree) → is_above floor u ≡ true → IsPast floor u
past_above None u h = λ t k. refl
past_above (Some f) u h = λ t k. earlier_on f u t h k

-- ---- one name more in the order

-- no name above the floor comes before the first of them
front : (ns : List Tree) (floor : Option Tree) (t : Tree) (ts : List Tree) → HaveNoGap ns floor (t ∷ ts)
    → All (λ u. is_earlier u t ≡ false) ts → (u : Tree) → Contains ns u → is_above floor u ≡ true
    → is_earlier u t ≡ false
front ns floor t ts g a u c h = search (arith, contains_cases, earlier_itself, All-contains, All-head)

repeat_shown : (p t : Tree) → are_same_texts (text_of t) (text_of p) ≡ true → start_of p < start_of t
    → repeat_of (Some p) t ≡ one DuplicateName t
repeat_shown p t s l = cond-true _ _ _ (and_from _ _ s (lt-ltb _ _ l))

-- u repeats t, and is above the floor and no later than the next name n
next_hidden : (ns : List Tree) (o : Option Finding) (floor : Option Tree) (n t u : Tree)
    → ((x : Tree) → Contains ns x → is_above floor x ≡ true → is_earlier x n ≡ false) → Contains ns t → Contains ns u
    → are_same_texts (text_of u) (text_of t) ≡ true → start_of t < start_of u → is_above floor u ≡ true
    → is_earlier n u ≡ false → IsHidden (least o (repeat_of floor n)) u
next_hidden ns o None n t u f ct cu s l a h =
    absurd (both_sides (on_upto t u n (earlier_by_start t u (sym (same_texts (text_of u) (text_of t) s)) l) h)
    (f t ct refl))
next_hidden ns o (Some p) n t u f ct cu s l a h =
    let tn = on_upto t u n (earlier_by_start t u (sym (same_texts (text_of u) (text_of t) s)) l) h in
    let tie = tied u n (f u cu a) h in
    let pt = none_true _ (λ k. both_sides tn (f t ct k)) in
    let pn = on_upto p u n a h in
    let tu_text = sym (same_texts (text_of u) (text_of t) s) in
    grind (arith, text_between, repeat_shown, start_by_earlier, hidden_as, hidden_now)

dealt_more : (ns : List Tree) (o : Option Finding) (floor : Option Tree) (n : Tree)
    → ((x : Tree) → Contains ns x → is_above floor x ≡ true → is_earlier x n ≡ false) → AreDealt ns o floor
    → AreDealt ns (least o (repeat_of floor n)) (Some n)
dealt_more ns o floor n f d = λ t u ct cu s l h.
    by_side _ t u refl ct cu s l h
  where
    by_side : (b : Bool) (t u : Tree) → is_above floor u ≡ b → Contains ns t → Contains ns u
        → are_same_texts (text_of u) (text_of t) ≡ true → start_of t < start_of u → is_above (Some n) u ≡ false
        → IsHidden (least o (repeat_of floor n)) u
    by_side true t u e ct cu s l h = next_hidden ns o floor n t u f ct cu s l e h
    by_side false t u e ct cu s l h = hidden_more o (repeat_of floor n) u (d t u ct cu s l e)

-- ---- all of them

gap_on : (ns : List Tree) (floor : Option Tree) (t : Tree) (ts : List Tree) → HaveNoGap ns floor (t ∷ ts)
    → IsPast floor t → HaveNoGap ns (Some t) ts
gap_on ns floor t ts g p = λ u c h.
    elim (g u c (p u h)) [
      | inl i ↦ elim (contains_cases t ts u i) [
        | inl e ↦ absurd (both_sides h (rw (← e) (earlier_itself t)))
        | inr j ↦ inl j
      ]
      | inr b ↦ inr (All-tail (λ v. is_earlier u v ≡ false) t ts b)
    ]

past_rest : (t : Tree) (ts : List Tree) → All (λ u. is_earlier u t ≡ false) ts → All (IsPast (Some t)) ts
past_rest t ts a = λ k d l v h. upto_on t _ v (a k d l) h

pub all_dealt : (ns : List Tree) (o : Option Finding) (floor : Option Tree) (ts : List Tree) → HaveNoGap ns floor ts
    → Ascend ts → All (IsPast floor) ts → AreDealt ns o floor
    → AreDealt ns (least o (neighbours floor ts)) (last_of floor ts)
all_dealt ns o floor [] g a p d = d
all_dealt ns o floor (t ∷ ts) g a p d =
    let r = all_dealt ns (least o (repeat_of floor t)) (Some t) ts
    (gap_on ns floor t ts g (All-head (IsPast floor) t ts p)) a.1 (past_rest t ts a.0)
    (dealt_more ns o floor t (front ns floor t ts g a.0) d) in
    rw least-append r

-- ---- the last of them

-- none of them comes after the last
pub none_past : (floor : Option Tree) (ts : List Tree) (u : Tree) → Ascend ts → Contains ts u
    → is_above (last_of floor ts) u ≡ false
none_past floor [] u a c = absurd (contains_none u c)
none_past floor (t ∷ []) u a c =
    elim (contains_cases t [] u c) [
      | inl e ↦ rw (← e) (earlier_itself t)
      | inr d ↦ absurd (contains_none u d)
    ]
none_past floor (t ∷ v ∷ ts) u a c =
    elim (contains_cases t (v ∷ ts) u c) [
      | inl e ↦ rw (← e) (past_last _ t v (All-head (λ x. is_earlier x t ≡ false) v ts a.0)
          (none_past (Some t) (v ∷ ts) v a.1 (contains_first v ts)))
      | inr d ↦ none_past (Some t) (v ∷ ts) u a.1 d
    ]
  where
    past_last : (o : Option Tree) (t v : Tree) → is_earlier v t ≡ false → is_above o v ≡ false → is_above o t ≡ false
    past_last None t v h k = k
    past_last (Some x) t v h k = upto_upto t v x h k

-- what comes after the last comes after the floor
pub last_past : (floor : Option Tree) (ts : List Tree) → Ascend ts → All (IsPast floor) ts → (t : Tree)
    → is_above (last_of floor ts) t ≡ true → is_above floor t ≡ true
last_past floor [] a p t h = h
last_past floor (u ∷ ts) a p t h = All-head (IsPast floor) u ts p t (last_past (Some u) ts a.1 (past_rest u ts a.0) t h)

pub last_among : (ns : List Tree) (floor : Option Tree) (ts : List Tree) → IfSome floor (Contains ns)
    → All (Contains ns) ts → IfSome (last_of floor ts) (Contains ns)
last_among ns floor [] c a = c
last_among ns floor (t ∷ ts) c a =
    last_among ns (Some t) ts (All-head (Contains ns) t ts a) (All-tail (Contains ns) t ts a)
