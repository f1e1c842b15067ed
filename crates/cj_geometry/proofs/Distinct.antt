-- Distinct names, by the words of their texts and by walks.
use Rattle.cj_geometry.proofs.Common.{All, AreLeast, Ascend, Equal, Greater, IsPermutation, IsSortedBy, IsWorded, List, Ordering, Source, Tree, WordedName, [], ap, arith, cases_order, compare_names, compare_worded, false, get_or, inl, inr, is_earlier, is_lt, length, name_in, names_in, nat_cmp, ranks_by, sorted_far, suc, text_of, word_in, ℕ, ◌++◌, ◌<◌, ◌∙◌, ◌∷◌, ◌≡◌, ◌≤◌, AreNamesInOrder, Bool, Contains, DuplicateName, Finding, IfSome, None, Option, Some, are_same_texts, cond, found_at, is_above, last_of, least, names_of, neighbours, one, refl, repeat_of, repeats, repeats_of, start_of, sym, true, ◌+◌, nat_tests}
use denote.Param.Members.{Mut}
use denote.Ref.{Bor}
use Rattle.std.specs.Cmp.{IsTotalOrder, then_total, on_total, nat_cmp_total}
use Rattle.std.specs.Cmp.Lexicographic.{nat_list_cmp_total, options_total}
use Rattle.std.specs.List.Sorted.{IsSplitAroundBy}
use Rattle.std.specs.Ordering.{ordering_then, ordering_reverse}
use Rattle.std.specs.Fn.{Called, ComparesAs}
use Rattle.std.proofs.lemmas.List.Elements.{All-head, All-map, All-tail, All-contains, All-nil, All-cons, All-append, Contains-get_or, Contains-append_left, Contains-append_right, Contains-append_cases}
use Rattle.std.proofs.lemmas.Fn.{always_returns_same}
use Rattle.cj_spans.specs.Order.{compare_texts, front_word}
use Rattle.cj_spans.proofs.Strings.{less_by_words}
use Rattle.cj_geometry.proofs.Names.{less_number, order, absorbed, contains_cases, contains_first, contains_later, contains_none, AreDealt, HaveNoGap, IsPast, all_dealt, none_past, last_past, last_among}
use Rattle.std.proofs.lemmas.Bool.{and_parts, cond_both, ltb-true}
use Rattle.cj_spans.proofs.Findings.{least-append}

-- ---- names with the words of their texts are ordered as their names are

-- ---- the words go along with the texts

same_numbers : (m n : ℕ) → m ≡ n → nat_cmp m n ≡ Equal
same_numbers m n h = grind (arith, nat_tests)

greater_numbers : (m n : ℕ) → n < m → nat_cmp m n ≡ Greater
greater_numbers m n h = grind (arith, nat_tests)

words_first : (t u : Tree) {v w : ℕ} → v ≡ front_word (text_of t) → w ≡ front_word (text_of u)
    → ordering_then (nat_cmp v w) (compare_names t u) ≡ compare_names t u
words_first t u {v} {w} e f =
    elim (cases_order v w) [
      | inl s ↦ grind (arith, same_numbers)
      | inr (inl l) ↦
          grind (arith, less_by_words, less_number)
      | inr (inr g) ↦
          let h = less_by_words (text_of u) (text_of t) (omega arith) in
          let k : compare_texts (text_of t) (text_of u) ≡ Greater =
          (options_total nat_list_cmp_total).antisymm (text_of t) (text_of u) ∙ ap ordering_reverse h in
          grind (arith, greater_numbers)
    ]

pub worded_as_names : (s : Source) (d e : WordedName) → IsWorded s d → IsWorded s e
    → compare_worded s d e ≡ compare_names (name_in s d) (name_in s e)
worded_as_names s d e h k = words_first (name_in s d) (name_in s e) h k

pub less_as_earlier : (s : Source) (d e : WordedName) → IsWorded s d → IsWorded s e
    → is_lt (compare_worded s d e) ≡ is_earlier (name_in s d) (name_in s e)
less_as_earlier s d e h k = ap is_lt (worded_as_names s d e h k)

-- ---- one order of all

pub worded_order : (s : Source) → IsTotalOrder (compare_worded s)
worded_order s = then_total (on_total word_in nat_cmp_total) (on_total (name_in s) order)

-- those that are sorted by it have names in order
each_later : (s : Source) (e : WordedName) (es : List WordedName) → IsWorded s e → All (IsWorded s) es
    → ((k : ℕ) (d : WordedName) → k < length es → is_lt (compare_worded s (get_or es k d) e) ≡ false)
    → All (λ u. is_earlier u (name_in s e) ≡ false) (names_in s es)
each_later s e es h a f = All-map (λ u. is_earlier u (name_in s e) ≡ false) (name_in s) es
    (grind (arith, less_as_earlier))

pub ascend_by : (s : Source) (es : List WordedName) → All (IsWorded s) es
    → ((i j : ℕ) (d : WordedName) → i ≤ j → j < length es → is_lt (compare_worded s (get_or es j d) (get_or es i d))
    ≡ false) → Ascend (names_in s es)
ascend_by s [] a f = tt
ascend_by s (e ∷ es) a f = (
  each_later s e es (All-head (IsWorded s) e es a) (All-tail (IsWorded s) e es a)
      (λ k d l. f 0 (suc k) d (omega arith) (omega arith)),
  ascend_by s es (All-tail (IsWorded s) e es a) (λ i j d h l. f (suc i) (suc j) d (omega arith) (omega arith)),
)

pub ascend_sorted : (s : Source) (es : List WordedName) → All (IsWorded s) es
    → IsSortedBy (λ d e. is_lt (compare_worded s d e)) es → Ascend (names_in s es)
ascend_sorted s es a h =
    ascend_by s es a (sorted_far (λ d e. is_lt _) (ranks_by (worded_order s) (λ e. e)) es h)

-- ---- what a closure that compares by an order has a sort do

pub compares_as : {X F : Type 0} (R : X → X → Ordering) {g : Mut F (Bor X × (Bor X × Unit {0})) Ordering} {f : F}
    → ((a : Bor X × (Bor X × Unit {0})) (r : Ordering) (f' : F) → Called g f a r f' → (r ≡ R a.0.now a.1.0.now)
    × (f' ≡ f)) → ComparesAs g (λ d e. is_lt (R d e)) f
compares_as R {g = g} {f = f} h = search (arith, always_returns_same)

-- a copy of the front of a split has the least of all
pub least_copied : (s : Source) (all : List WordedName) {front : List WordedName} (others : List WordedName)
    {copy : List WordedName} (next : WordedName) → copy ≡ front
    → IsPermutation all (front ++ next ∷ others)
    → IsSplitAroundBy (λ d e. is_lt (compare_worded s d e)) front next others → AreLeast s all copy next
least_copied s all others next e h k = search arith

-- ---- distinct names, found by walks that each deal with the least names above the last ones

-- ---- what a repeated name is

-- a name, and a later one that has its text
pub record IsRepeat (ns : List Tree) (f : Finding) : Type 0 where
  pub earlier : Tree
  pub later : Tree
  pub first : Contains ns earlier
  pub second : Contains ns later
  pub same : are_same_texts (text_of later) (text_of earlier) ≡ true
  pub behind : start_of earlier < start_of later
  pub is : f ≡ found_at (start_of later) DuplicateName

-- what a name tells, if it has the text of the first one
abbrev finding_if : Tree → Tree → List Finding
finding_if name t = cond (are_same_texts (text_of t) (text_of name)) (one DuplicateName t) []

only_one : (b : Bool) (t : Tree) (f : Finding) → Contains (cond b (one DuplicateName t) []) f → (b ≡ true)
    × (f ≡ found_at (start_of t) DuplicateName)
only_one true t f c = search (arith, contains_cases, contains_none)
only_one false t f c = absurd (contains_none f c)

later_of : (name : Tree) (ms : List (Tree × Tree)) (f : Finding) → Contains (repeats_of name ms) f → (u : Tree)
    × Contains (names_of ms) u × (are_same_texts (text_of u) (text_of name) ≡ true)
    × (f ≡ found_at (start_of u) DuplicateName)
later_of name [] f c = absurd (contains_none f c)
later_of name (m ∷ ms) f c =
    elim (Contains-append_cases (finding_if name m.0) (repeats_of name ms) f c) [
      | inl h ↦ grind (arith, only_one, contains_first)
      | inr h ↦ let r = later_of name ms f h in (r.0, contains_later m.0 (names_of ms) r.0 r.1, r.2, r.3)
    ]

names_behind : (name : Tree) (ms : List (Tree × Tree)) → All (λ (n : Tree × Tree). start_of name < start_of n.0) ms
    → (u : Tree) → Contains (names_of ms) u → start_of name < start_of u
names_behind name [] a u c = absurd (contains_none u c)
names_behind name (m ∷ ms) a u c =
    elim (contains_cases m.0 (names_of ms) u c) [
      | inl e ↦ rw e at (All-head (λ (n : Tree × Tree). start_of name < start_of n.0) m ms a)
      | inr d ↦ names_behind name ms (All-tail (λ (n : Tree × Tree). start_of name < start_of n.0) m ms a) u d
    ]

pub repeat_is : (ms : List (Tree × Tree)) → AreNamesInOrder ms → (f : Finding) → Contains (repeats ms) f
    → IsRepeat (names_of ms) f
repeat_is [] o f c = absurd (contains_none f c)
repeat_is (m ∷ ms) o f c =
    elim (Contains-append_cases (repeats_of m.0 ms) (repeats ms) f c) [
      | inl h ↦
          let r = later_of m.0 ms f h in
          record {
            earlier = m.0;
            later = r.0;
            first = contains_first m.0 (names_of ms);
            second = contains_later m.0 (names_of ms) r.0 r.1;
            same = r.2;
            behind = names_behind m.0 ms o.0 r.0 r.1;
            is = r.3;
          }
      | inr h ↦
          grind (arith, repeat_is ms o.1 f h, contains_later)
    ]

-- ---- a later name of the same text has a finding

has_finding : (name : Tree) (ms : List (Tree × Tree)) (u : Tree) → Contains (names_of ms) u
    → are_same_texts (text_of u) (text_of name) ≡ true
    → Contains (repeats_of name ms) (found_at (start_of u) DuplicateName)
has_finding name [] u c s = absurd (contains_none u c)
has_finding name (m ∷ ms) u c s =
    elim (contains_cases m.0 (names_of ms) u c) [
      | inl e ↦ grind arith
      | inr d ↦ Contains-append_right (finding_if name m.0) (repeats_of name ms) (found_at (start_of u) DuplicateName)
          (has_finding name ms u d s)
    ]

pub repeat_found : (ms : List (Tree × Tree)) → AreNamesInOrder ms → (t u : Tree) → Contains (names_of ms) t
    → Contains (names_of ms) u → are_same_texts (text_of u) (text_of t) ≡ true → start_of t < start_of u
    → Contains (repeats ms) (found_at (start_of u) DuplicateName)
repeat_found [] o t u ct cu s l = absurd (contains_none t ct)
repeat_found (m ∷ ms) o t u ct cu s l =
    elim (contains_cases m.0 (names_of ms) u cu) [
      | inl e ↦ absurd (not_first e)
      | inr d ↦ elim (contains_cases m.0 (names_of ms) t ct) [
        | inl e ↦ Contains-append_left (repeats_of m.0 ms) (repeats ms) (found_at (start_of u) DuplicateName)
            (grind (arith, has_finding))
        | inr c ↦ Contains-append_right (repeats_of m.0 ms) (repeats ms) (found_at (start_of u) DuplicateName)
            (repeat_found ms o.1 t u c d s l)
      ]
    ]
  where
    -- the first name starts before all others
    not_first : m.0 ≡ u → ⊥
    not_first e =
        let s : start_of m.0 ≡ start_of u = ap start_of e in
        elim (contains_cases m.0 (names_of ms) t ct) [
          | inl f ↦ let r : start_of m.0 ≡ start_of t = ap start_of f in absurd (omega arith)
          | inr c ↦ let b = names_behind m.0 ms o.0 t c in absurd (omega arith)
        ]

-- ---- what neighbours tell is found by the rule

repeat_among : (ms : List (Tree × Tree)) → AreNamesInOrder ms → (floor : Option Tree) (t : Tree)
    → IfSome floor (Contains (names_of ms)) → Contains (names_of ms) t → All (Contains (repeats ms)) (repeat_of floor t)
repeat_among ms o None t cf ct = All-nil _
repeat_among ms o (Some u) t cf ct =
    search (arith, cond_both, and_parts, All-cons, repeat_found, ltb-true, All-nil)

pub neighbours_among : (ms : List (Tree × Tree)) → AreNamesInOrder ms → (floor : Option Tree) (ts : List Tree)
    → IfSome floor (Contains (names_of ms)) → All (Contains (names_of ms)) ts
    → All (Contains (repeats ms)) (neighbours floor ts)
neighbours_among ms o floor [] cf a = All-nil (Contains (repeats ms))
neighbours_among ms o floor (t ∷ ts) cf a =
    let c = All-head (Contains (names_of ms)) t ts a in
    All-append (Contains (repeats ms)) (repeat_of floor t) (neighbours (Some t) ts) (repeat_among ms o floor t cf c)
    (neighbours_among ms o (Some t) ts c (All-tail (Contains (names_of ms)) t ts a))

-- ---- one walk after another

-- what was found when all names up to the floor are dealt with
pub record HasReached (ms : List (Tree × Tree)) (old now : Option Finding) (floor : Option Tree) : Type 0 where
  pub found : List Finding
  pub sum : now ≡ least old found
  pub right : All (Contains (repeats ms)) found
  pub floor_named : IfSome floor (Contains (names_of ms))
  pub dealt : AreDealt (names_of ms) now floor

-- what a walk gathered: names above the floor and none left out between, in order
pub record AreNext (ms : List (Tree × Tree)) (floor : Option Tree) (ts : List Tree) : Type 0 where
  pub ascend : Ascend ts
  pub named : All (Contains (names_of ms)) ts
  pub past : All (IsPast floor) ts
  pub no_gap : HaveNoGap (names_of ms) floor ts

pub reached_more : {ms : List (Tree × Tree)} → AreNamesInOrder ms
    → {old now next : Option Finding} {floor last : Option Tree} {ts : List Tree} → HasReached ms old now floor
    → AreNext ms floor ts → next ≡ least now (neighbours floor ts) → last ≡ last_of floor ts
    → HasReached ms old next last
reached_more {ms} o {old} {now} {floor} {last} {ts} r n e f =
    let more = neighbours_among ms o floor ts r.floor_named n.named in
    rw (e, f) (record {
      found = r.found ++ neighbours floor ts;
      sum = grind (arith, least-append);
      right = All-append (Contains (repeats ms)) r.found (neighbours floor ts) r.right more;
      floor_named = last_among (names_of ms) floor ts r.floor_named n.named;
      dealt = all_dealt (names_of ms) now floor ts n.no_gap n.ascend n.past r.dealt;
    })

hidden_all : (o : Option Finding) (fs : List Finding) → All (λ f. least o (f ∷ []) ≡ o) fs → least o fs ≡ o
hidden_all o [] a = refl
hidden_all o (f ∷ fs) a = ap (λ x. least x fs) (All-head (λ g. least o (g ∷ []) ≡ o) f fs a)
    ∙ hidden_all o fs (All-tail (λ g. least o (g ∷ []) ≡ o) f fs a)

pub all_reached : {ms : List (Tree × Tree)} → AreNamesInOrder ms → {old now : Option Finding} {floor : Option Tree}
    → HasReached ms old now floor → ((t : Tree) → Contains (names_of ms) t → is_above floor t ≡ false)
    → now ≡ least old (repeats ms)
all_reached {ms} o {old} {now} r done =
    sym (hidden_all now (repeats ms) (λ k d l. hidden_at _ (Contains-get_or (repeats ms) k d l)))
    ∙ ap (λ x. least x (repeats ms)) r.sum ∙ absorbed old r.found (repeats ms) r.right
  where
    hidden_at : (f : Finding) → Contains (repeats ms) f → least now (f ∷ []) ≡ now
    hidden_at f c =
        let p = repeat_is ms o f c in
        rw p.is (r.dealt p.earlier p.later p.first p.second p.same p.behind (done p.later p.second))

-- ---- how many names are left

-- 1 where the test is passed
abbrev passed : Bool → ℕ
passed true = 1
passed false = 0

-- how many of these pass the test
abbrev pub count_where : (Tree → Bool) → List Tree → ℕ
count_where p [] = 0
count_where p (t ∷ ts) = passed (p t) + count_where p ts

-- how many of these are above the floor
abbrev pub left_above : List Tree → Option Tree → ℕ
left_above ns floor = count_where (is_above floor) ns

one_each : (a b : Bool) → (b ≡ true → a ≡ true) → passed b ≤ passed a
one_each true true f = omega arith
one_each true false f = omega arith
one_each false true f = let n = f refl in cc
one_each false false f = omega arith

no_more : (p q : Tree → Bool) (ns : List Tree) → ((t : Tree) → q t ≡ true → p t ≡ true)
    → count_where q ns ≤ count_where p ns
no_more p q [] f = omega arith
no_more p q (t ∷ ts) f = let h = one_each (p t) (q t) (f t) in let r = no_more p q ts f in omega arith

fewer : (p q : Tree → Bool) (ns : List Tree) (u : Tree) → ((t : Tree) → q t ≡ true → p t ≡ true) → Contains ns u
    → p u ≡ true → q u ≡ false → count_where q ns < count_where p ns
fewer p q [] u f c a b = absurd (contains_none u c)
fewer p q (t ∷ ts) u f c a b =
    let h = one_each (p t) (q t) (f t) in
    elim (contains_cases t ts u c) [
      | inl e ↦
          grind (arith, no_more)
      | inr d ↦ let r = fewer p q ts u f d a b in omega arith
    ]

-- a walk that gathered a name above the floor leaves fewer
pub fewer_left : {ms : List (Tree × Tree)} {floor : Option Tree} {ts : List Tree} (t : Tree) → AreNext ms floor ts
    → Contains ts t → is_above floor t ≡ true
    → left_above (names_of ms) (last_of floor ts) < left_above (names_of ms) floor
fewer_left {ms} {floor} {ts} t n c a =
    fewer (is_above floor) _ (names_of ms) t (λ u h. last_past floor ts n.ascend n.past u h)
    (All-contains (Contains (names_of ms)) ts t n.named c) a (none_past floor ts t n.ascend c)
