-- What follows where a rule finds nothing; the rules on numbers and their maps.
use Rattle.cj_feature.proofs.Common.{Bool, Finding, List, None, Option, Reason, Some, Tree, WrongKind, [], arith, cond, false, flat_map, if_there, list_all, member_of, missing, needs, one, refl, true, ℕ, ◌++◌, ◌∷◌, ◌≡◌, DecimalFault, Err, IsInRange, IsNumberInRange, IsValue, IsWhole, Kind, Number, Ok, Result, ap, array, as_whole, decimal_of, is_number, kind_of, number, object, option_and_then, result_ok, scalar, spelling, spelling_of, value_findings, value_of, whole_of, ℤ, IsFixed, IsNormal, is_fixed, is_fixed_by, is_some, negsuc, pos, units_of, NotThree, TransformNotFixed, append-nil, eqb-true, fixed, items_if, items_of, length, map, not, of_length, sym, take, three_numbers, empty, given_list, is_array, listed, templates_of, has_length, least, nothing, of_kind, IsLeast}
use Rattle.cj_spans.specs.declared.token.Kind.TheVariants.{Null, Truth, Number as NumberKind, Text, Array, Object}
use Rattle.cj_decimal.proofs.Readings.{decimal_is, decimal_has, is_whole}
use Rattle.std.proofs.Common.{neg_ℤ, ◌+ℤ◌, ◌↔◌, IsSome}
use Rattle.std.proofs.lemmas.Int.{ints}
use Rattle.cj_decimal.proofs.Values.{abs_times}
use Rattle.cj_decimal.proofs.Scales.{units_below, units_are, units_same, size_of_units}
use Rattle.std.proofs.lemmas.Bool.{lt-ltb, ltb-true}
use Rattle.std.specs.Option.{option_map_or}
use Rattle.cj_feature.specs.Shown.{are_fixed, first_two}
use Rattle.cj_geometry.specs.Given.{list_of}
use Rattle.cj_spans.proofs.Findings.{least-two, least-swap, fold_least, least-append}
use Rattle.cj_geometry.proofs.Values.{of_kind-then}

-- ---- what follows where a rule finds nothing

-- neither of two lists has one
pub none-both : (fs gs : List Finding) → fs ++ gs ≡ [] → (fs ≡ []) × (gs ≡ [])
none-both [] gs h = (refl, h)
none-both (f ∷ fs) gs h = absurd (cc h)

-- the value is of the kind, and the rule on it finds nothing
pub kind-none : (b : Bool) (fs : List Finding) (t : Tree) → cond b fs (one WrongKind t) ≡ [] → (b ≡ true) × (fs ≡ [])
kind-none true fs t h = (refl, h)
kind-none false fs t h = absurd (cc h)

module _ (rule : Tree → List Finding) (t : Tree) where
  pub by-member : (o : Option Tree) → missing t o ++ if_there rule o ≡ [] → (u : Tree) × (o ≡ Some u) × (rule u ≡ [])
  by-member None h = absurd (cc h)
  by-member (Some u) h = (u, refl, h)

  -- the member is there, and the rule on it finds nothing; o is what a look-up of it has answered
  module _ (name : List ℕ) (none : needs name rule t ≡ []) (o : Option Tree) (is : o ≡ member_of name t) where
    found : (u : Tree) × (member_of name t ≡ Some u) × (rule u ≡ [])
    found = by-member (member_of name t) none

    pub is-there : o ≡ None → ⊥
    is-there e = let has = found in cc

    pub then-none : (u : Tree) → o ≡ Some u → rule u ≡ []
    then-none u e =
        let has = found in
        let same : u ≡ has.0 = cc in
        rw same has.2

-- a test holds, where another outcome has a finding
pub holds : (b : Bool) (r : Reason) (t : Tree) → cond b [] (one r t) ≡ [] → b ≡ true
holds true r t h = refl
holds false r t h = absurd (cc h)

-- and each of a list, where a rule finds nothing in any, passes a test that the rule decides
pub none-each : {A : Type 0} (rule : A → List Finding) (test : A → Bool) → ((x : A) → rule x ≡ [] → test x ≡ true)
    → (xs : List A) → flat_map rule xs ≡ [] → list_all test xs ≡ true
none-each rule test decides [] h = refl
none-each rule test decides (x ∷ xs) h = search (arith, none-both, none-each rule test decides xs)

-- ---- the values of numbers that rules have read

pub is-number : (k : Kind) → is_number k ≡ true → k ≡ NumberKind
is-number Null h = absurd (cc h)
is-number Truth h = absurd (cc h)
is-number NumberKind h = refl
is-number Text h = absurd (cc h)
is-number Array h = absurd (cc h)
is-number Object h = absurd (cc h)

pub same-spelling : (line : List ℕ) (t : Tree) → kind_of t ≡ NumberKind → spelling_of line t ≡ spelling t
same-spelling line (scalar k a) e = refl
same-spelling line (array i j ts) e = absurd (cc e)
same-spelling line (object i j ms) e = absurd (cc e)

in-range : (s : List ℕ) (t : Tree) (r : Result Number DecimalFault) → decimal_of s ≡ r
    → value_findings (λ v. []) t r ≡ [] → IsNumberInRange s
in-range s t (Ok v) e h = let has = decimal_has s v e in (v, has.0, has.1)
in-range s t (Err f) e h = absurd (cc h)

-- where a number has no finding
module _ (line : List ℕ) (t : Tree) (none : number t ≡ []) where
  parts : (is_number (kind_of t) ≡ true) × (value_findings (λ v. []) t (decimal_of (spelling t)) ≡ [])
  parts = kind-none _ _ t none

  spelled : spelling_of line t ≡ spelling t
  spelled = same-spelling line t (is-number (kind_of t) parts.0)

  -- it is one in range
  pub read-in-range : IsNumberInRange (spelling_of line t)
  read-in-range = search (arith, spelled, in-range)

  -- and its value is the one that is read
  pub read-value : (u : Number) → IsValue (spelling_of line t) u → IsInRange u → value_of t ≡ Some u
  read-value u is range = rw parts.0 (ap result_ok (decimal_is (spelling t) u (rw spelled at is) range))

-- ---- the value of a number is that of its spelling

read-there : (r : Result Number DecimalFault) (v : Number) → result_ok r ≡ Some v → r ≡ Ok v
read-there (Ok u) v h = let same : u ≡ v = cc h in ap Ok same
read-there (Err f) v h = absurd (cc h)

-- what is read of a number alone is there
if-number : {A : Type 0} (b : Bool) (o : Option A) (x : A) → cond b o None ≡ Some x → o ≡ Some x
if-number true o x h = h
if-number false o x h = absurd (cc h)

pub its-value : (t : Tree) (v : Number) → value_of t ≡ Some v → IsValue (spelling t) v
its-value t v h = search (arith, if-number, decimal_has, read-there)

whole-value : (o : Option Number) (w : ℤ) → option_and_then as_whole o ≡ Some w → (v : Number) × (o ≡ Some v)
    × (as_whole v ≡ Some w)
whole-value None w h = absurd (cc h)
whole-value (Some v) w h = (v, refl, h)

pub its-whole : (t : Tree) (w : ℤ) → whole_of t ≡ Some w → (v : Number) × IsValue (spelling t) v × IsWhole v w
its-whole t w h = search (arith, whole-value, its-value, is_whole)

pub ruleset number_values = (its-value, its-whole)

-- ---- the test for a fixed number

-- the units of a number that passes the test, and no other number of them
pub fixed-units : (n : Number) → is_fixed n ≡ true → IsFixed n (units_of n)
fixed-units n h = search (arith, abs_times, ltb-true, units_same, ints)

pub units-only : (n : Number) (u : ℤ) → is_fixed n ≡ true → IsFixed n u → u ≡ units_of n
units-only n u h f = search (arith, units_are, ints)

module _ (n : Number) (normal : IsNormal n) where
  of-test : (shift : ℤ) → n.power +ℤ pos 18 ≡ shift → (u : ℤ) × IsFixed n u → is_fixed_by shift n.coefficient ≡ true
  of-test (pos k) e f = search (arith, size_of_units, ints, lt-ltb)
  of-test (negsuc k) e f =
      absurd (units_below n f.0 (neg_ℤ (pos 18)) normal f.1.same (omega (arith, ints, e)) (omega (arith, ints)))

  pub test-fixed : (u : ℤ) × IsFixed n u → is_fixed n ≡ true
  test-fixed = of-test (n.power +ℤ pos 18) refl

-- the test says whether there are units
pub test-decides : (n : Number) → IsNormal n → (r : Option ℤ) → (IsSome r ↔ ((u : ℤ) × IsFixed n u))
    → is_fixed n ≡ is_some r
test-decides n normal (Some x) h = test-fixed n normal (h.0 refl)
test-decides n normal None h = go (is_fixed n) refl
  where
    go : (b : Bool) → is_fixed n ≡ b → b ≡ false
    go true e = let some = h.1 (units_of n, fixed-units n e) in absurd (cc some)
    go false e = refl

-- ---- the rule on a fixed number, and the maps of axes that it allows

-- ---- a rule for the first two

pub first_two-take : (rule : Tree → List Finding) (ts : List Tree) → first_two rule ts ≡ flat_map rule (take 2 ts)
first_two-take rule [] = refl
first_two-take rule (x ∷ []) = sym (append-nil _)
first_two-take rule (x ∷ y ∷ ts) = ap (λ fs. rule x ++ fs) (sym (append-nil _))

-- ---- what the rule finds of a number

abbrev fixed_findings : Tree → Option Number → List Finding
fixed_findings t o = option_map_or (λ v. cond (is_fixed v) [] (one TransformNotFixed t)) o []

by-none : (t : Tree) (s : List ℕ) → (IsNumberInRange s → ⊥) → fixed_findings t (result_ok (decimal_of s)) ≡ []
by-none t s none = go _ refl
  where
    go : (r : Result Number DecimalFault) → decimal_of s ≡ r → fixed_findings t (result_ok r) ≡ []
    go (Ok v) e = let has = decimal_has s v e in absurd (none (v, has.0, has.1))
    go (Err f) e = refl

module _ (line : List ℕ) (t : Tree) (kind : is_number (kind_of t) ≡ true) where
  fixed_spelled : spelling_of line t ≡ spelling t
  fixed_spelled = same-spelling _ t (is-number _ kind)

  pub fixed-read : (u : Number) → IsValue (spelling_of line t) u → IsInRange u
      → fixed t ≡ cond (is_fixed u) [] (one TransformNotFixed t)
  fixed-read u is range =
      rw kind (ap (λ r. fixed_findings t (result_ok r)) (decimal_is _ u (rw fixed_spelled at is) range))

  pub fixed-unread : (IsNumberInRange (spelling_of line t) → ⊥) → fixed t ≡ []
  fixed-unread none = rw kind (by-none t _ (rw fixed_spelled at none))

-- the same told by an answer
pub by-answer : (t : Tree) (u : Number) (b : Bool) → is_fixed u ≡ not b
    → cond (is_fixed u) [] (one TransformNotFixed t) ≡ cond b (one TransformNotFixed t) []
by-answer t u true e = rw e refl
by-answer t u false e = rw e refl

-- ---- what a number of no findings is

value-fixed : (t : Tree) (v : Number) → value_of t ≡ Some v → fixed t ≡ [] → is_fixed v ≡ true
value-fixed t v e h = search (arith, holds)

-- ---- three numbers, of which the first two are fixed

three-values : (ts : List Tree) (ns : List Number) → length ts ≡ 3 → first_two fixed ts ≡ []
    → map value_of ts ≡ map Some ns → are_fixed ns ≡ true
three-values [] ns few h e = absurd (cc few)
three-values (a ∷ []) ns few h e = absurd (cc few)
three-values (a ∷ b ∷ ts) [] few h e = absurd (cc e)
three-values (a ∷ b ∷ ts) (x ∷ []) few h e = absurd (cc e)
three-values (a ∷ b ∷ ts) (x ∷ y ∷ ns) few h e = search (arith, none-both, value-fixed)

length-three : (t : Tree) → of_length NotThree 3 number t ≡ [] → length (items_of t) ≡ 3
length-three t h = search (arith, eqb-true, holds, none-both, kind-none)

module _ (name : List ℕ) (u : Tree) where
  -- three numbers, whatever is said of the first two
  pub needs-three : (b : Bool) → needs name (three_numbers b) u ≡ [] → needs name (of_length NotThree 3 number) u ≡ []
  needs-three b h = search (arith, by-member, none-both)

  pub axes-fixed : (ns : List Number) → needs name (three_numbers true) u ≡ []
      → map value_of (items_if (member_of name u)) ≡ map Some ns → are_fixed ns ≡ true
  axes-fixed ns h e = search (arith, by-member, none-both, first_two-take, three-values, length-three)

-- ---- the templates of a header that has no list of them

listed_if : (v : Bool) (t : Tree) → false ≡ is_some (list_of (cond v (listed t) empty))
    → cond v (listed t) empty ≡ empty
listed_if true t h = absurd (cc h)
listed_if false t h = refl

given_none : (o : Option Tree) → false ≡ is_some (list_of (given_list o)) → given_list o ≡ empty
given_none None h = refl
given_none (Some t) h = listed_if (is_array (kind_of t)) t h

-- where no steps are known there are none
pub no_list : (t : Tree) → false ≡ is_some (list_of (templates_of t)) → templates_of t ≡ empty
no_list t h = given_none _ h

-- ---- arrays whose items are gone over before they are counted

-- another length has its reason
other-length : (reason : Reason) (n : ℕ) (t : Tree) → (length (items_of t) ≡ n → ⊥)
    → has_length reason n t ≡ one reason t
other-length reason n t other = search (arith, eqb-true)

-- the kind, then the items, and then the length
pub of_length-late : (reason : Reason) (n : ℕ) (rule : Tree → List Finding) (t : Tree) (o p q r : Option Finding)
    → is_array (kind_of t) ≡ true → p ≡ least o (of_kind is_array nothing t)
    → q ≡ least p (flat_map rule (items_of t)) → (length (items_of t) ≡ n → ⊥) → r ≡ least q (one reason t)
    → r ≡ least o (of_length reason n rule t)
of_length-late reason n rule t o p q r kind h k other l =
    search (arith, other-length, of_kind-then, least-two, least-swap)

-- ---- the verdict on a line: what is kept where nothing was kept before

pub only-findings : (fs : List Finding) (o p : Option Finding) → o ≡ None → p ≡ least o fs → IsLeast fs p
only-findings fs o p e h = rw (h, e) (fold_least None fs)

-- one list of findings after another
pub ruleset finding_steps = (least-append)
