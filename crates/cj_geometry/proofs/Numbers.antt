-- The two grammars of numbers agree; what reading a number says of its findings.
use Rattle.cj_geometry.proofs.Common.{Bool, Class, Contains, List, Number, SpellsNumber, Text, Tree, [], ap, arith, false, inl, inr, items_of, kind_of, list_items, list_members, members_of, no_number, pos, refl, scalar, slice_range, spelling_of, subst, true, ℕ, ℤ, ◌++◌, ◌↔◌, ◌∷◌, ◌≡◌, DecimalFault, Err, Finding, IfSome, IsInt, IsNumberInRange, IsNumberOutOfRange, IsSome, None, NotWhole, Ok, Option, Reason, Result, Some, cond, decimal_of, fault_reason, get_or, index, is_outside, kind_by, least, number, of_z, one, option_and_then, result_ok, spelling, sym, to_z, value_findings, w64, whole_answer, whole_findings, whole_of, ◌<◌, ◌^◌, ◌∙◌, ◌≤◌, nat_tests}
use Rattle.std.proofs.lemmas.List.Elements.{Contains-push_cases}
use Rattle.cj_spans.specs.Meaning.Spelling.{IsScalar}
use Rattle.cj_spans.specs.Meaning.Tree.{Atom, Items, no_items, item, Members, no_members, member, add_item, add_member}
use Rattle.cj_spans.specs.Meaning.Json.{Json, Value, atom, full_array, full_object, Padded, padded, LedItems, no_led, led, LedMembers, no_led_members, led_member, IsAtom, byte}
use Rattle.cj_decimal.specs.Meaning.Number.{signed, Number as DecimalNumber, as_whole}
use Rattle.cj_decimal.specs.Meaning.Reading.{digits_value}
use Rattle.cj_geometry.specs.Grammar.{IsWithinTree, the_tree, an_item, a_value, IsOfNumber}
use Rattle.std.proofs.Common.{unsigned_abs, unwrap_or}
use Rattle.std.proofs.lemmas.Int.{to_z-of_z, fits_signed_from_abs}
use Rattle.cj_geometry.specs.Meaning.Numbers.{of_whole}
use Rattle.cj_decimal.specs.declared.decimal.DecimalFault.TheVariants.{NotANumber, NumberRange as OutOfRange}
use Rattle.cj_decimal.proofs.EightsInLine.{first_is}
use Rattle.cj_decimal.specs.FewDigits.{IsFewDigits, IsFewSigned, IsNumberIfBegun}
use Rattle.cj_decimal.specs.Word.{IsWordOf}
use Rattle.cj_decimal.proofs.Readings.{decimal_is, whole_class, answer_fault}
use Rattle.cj_decimal.proofs.Classes.{class}
use Rattle.cj_spans.specs.Meaning.Spelling as scanned
use Rattle.cj_decimal.specs.Meaning.Spelling as read

-- ---- the grammar of numbers that a scan goes by and the one that decimals are read by are the same

-- ---- what is scanned as a number is read as one

minus_forth : (s : List ℕ) → scanned.IsMinus s → (b : Bool) × read.IsMinus b s
minus_forth s (inl e) = (false, e)
minus_forth s (inr e) = (true, e)

frac_forth : (s : List ℕ) → scanned.IsFrac s → (digits : List ℕ) × read.IsFrac digits s
frac_forth [] h = ([], inl (refl, refl))
frac_forth (b ∷ s) h = (s, inr (h.1, ap (λ x. x ∷ s) h.0))

sign_forth : (s : List ℕ) → scanned.IsExpSign s → (b : Bool) × read.IsExpSign b s
sign_forth s (inl e) = (false, inl e)
sign_forth s (inr (inl e)) = (false, inr e)
sign_forth s (inr (inr e)) = (true, e)

exp_forth : (s : List ℕ) → scanned.IsExp s → (e : ℤ) × read.IsExp e s
exp_forth [] h = (pos 0, inl (refl, refl))
exp_forth (b ∷ s) h =
    let sign = sign_forth h.1.sign h.1.sign_is in (
      signed sign.0 (digits_value h.1.digits),
      grind arith,
    )

pub read_number : (s : List ℕ) → scanned.IsNumber s → SpellsNumber s
read_number s n =
    let minus = minus_forth n.minus n.minus_is in
    let frac = frac_forth n.frac n.frac_is in
    let exp = exp_forth n.exp n.exp_is in (
      record { negative = minus.0; int = n.int; frac = frac.0; exponent = exp.0 },
      grind arith,
    )

-- ---- what is read as a number is scanned as one

minus_back : (b : Bool) (s : List ℕ) → read.IsMinus b s → scanned.IsMinus s
minus_back false s e = inl e
minus_back true s e = inr e

frac_back : (digits s : List ℕ) → read.IsFrac digits s → scanned.IsFrac s
frac_back digits s (inl (d, e)) = rw e tt
frac_back digits s (inr (d, e)) = rw e (refl, d)

sign_back : (b : Bool) (s : List ℕ) → read.IsExpSign b s → scanned.IsExpSign s
sign_back false s (inl e) = inl e
sign_back false s (inr e) = inr (inl e)
sign_back true s e = inr (inr e)

exp_back : (e : ℤ) (s : List ℕ) → read.IsExp e s → scanned.IsExp s
exp_back e s (inl (z, q)) = rw q tt
exp_back e s (inr p) = search (arith, sign_back)

pub scanned_number : (s : List ℕ) → SpellsNumber s → scanned.IsNumber s
scanned_number s (w, n) = search (arith, minus_back, frac_back, exp_back)

pub one_grammar : (s : List ℕ) → IsScalar Number s ↔ SpellsNumber s
one_grammar s = (read_number s, scanned_number s)

pub atom_number : (line : List ℕ) (i j : ℕ) → IsAtom line Number i j → SpellsNumber (slice_range line i j)
atom_number line i j a = read_number _ a.spelled

-- ---- what a text holds is spelled in it

-- the line spells the tree somewhere
abbrev Spelled : List ℕ → Tree → Type 0
Spelled b t = (i : ℕ) × (j : ℕ) × Value b i j t

nothing_held : {X : Type 0} (x : X) → Contains [] x → ⊥
nothing_held x h = absurd (omega (arith, h.1))

items-add : (ts : Items) (t : Tree) → list_items (add_item ts t) ≡ list_items ts ++ t ∷ []
items-add no_items t = refl
items-add (item u ts) t = ap (λ us. u ∷ us) (items-add ts t)

members-add : (ms : Members) (n : Atom) (t : Tree) → list_members (add_member ms n t) ≡ list_members ms
    ++ (scalar Text n, t) ∷ []
members-add no_members n t = refl
members-add (member m u ms) n t = ap (λ us. (scalar Text m, u) ∷ us) (members-add ms n t)

module _ {b : List ℕ} where
  padded_spelled : {i l : ℕ} {t : Tree} → Padded b i l t → Spelled b t
  padded_spelled (padded i j k l t before v after) = (j, k, v)

  last_item : (ts : Items) (t v : Tree) → Spelled b t → (Contains (list_items ts) v → Spelled b v)
      → Contains (list_items (add_item ts t)) v → Spelled b v
  last_item ts t v last earlier h =
      elim (Contains-push_cases _ t v (rw items-add at h)) [
        | inl k ↦ earlier k
        | inr e ↦ rw e at last
      ]

  led_spelled : {i j : ℕ} {ts : Items} → LedItems b i j ts → (v : Tree) → Contains (list_items ts) v → Spelled b v
  led_spelled (no_led i) v h = absurd (nothing_held v h)
  led_spelled (led i j k ts t before p comma) v h = last_item ts t v (padded_spelled p) (led_spelled before v) h

  last_value : (ms : Members) (n : Atom) (t : Tree) (m : Tree × Tree) → Spelled b t
      → (Contains (list_members ms) m → Spelled b m.1) → Contains (list_members (add_member ms n t)) m → Spelled b m.1
  last_value ms n t m last earlier h =
      elim (Contains-push_cases _ _ m (rw members-add at h)) [
        | inl k ↦ earlier k
        | inr e ↦ subst (λ x. Spelled b x.1) e last
      ]

  led_members_spelled : {i j : ℕ} {ms : Members} → LedMembers b i j ms → (m : Tree × Tree)
      → Contains (list_members ms) m → Spelled b m.1
  led_members_spelled (no_led_members i) m h = absurd (nothing_held m h)
  led_members_spelled (led_member i j k l ms n t before name p comma) m h =
      last_value ms n t m (padded_spelled p) (led_members_spelled before m) h

  item_spelled : {i j : ℕ} {u : Tree} → Value b i j u → (v : Tree) → Contains (items_of u) v → Spelled b v
  item_spelled (full_array i j k ts t opened before p closed) v h =
      last_item ts t v (padded_spelled p) (led_spelled before v) h
  item_spelled _ v h = absurd (nothing_held v h)

  value_spelled : {i j : ℕ} {u : Tree} → Value b i j u → (m : Tree × Tree) → Contains (members_of u) m → Spelled b m.1
  value_spelled (full_object i j k l ms n t opened before name p closed) m h =
      last_value ms n t m (padded_spelled p) (led_members_spelled before m) h
  value_spelled _ m h = absurd (nothing_held m h)

  held_spelled : {t u : Tree} → Spelled b t → IsWithinTree t u → Spelled b u
  held_spelled s the_tree = s
  held_spelled s (an_item u v h c) = let w = held_spelled s h in item_spelled w.2 v c
  held_spelled s (a_value u m h c) = let w = held_spelled s h in value_spelled w.2 m c

  spelled_number : {i j : ℕ} {u : Tree} → Value b i j u → kind_of u ≡ Number → SpellsNumber (spelling_of b u)
  spelled_number (atom k i j a) e =
      read_number _ (rw e at a.spelled)
  spelled_number _ e = cc

pub held_number : (line : List ℕ) (t u : Tree) → Json line t → IsWithinTree t u → kind_of u ≡ Number
    → SpellsNumber (spelling_of line u)
held_number line t u json h e = spelled_number (held_spelled (padded_spelled json) h).2 e

-- ---- and so its class is one of a number

of_number : {s : List ℕ} (c : Class s) → SpellsNumber s → IsOfNumber c
of_number (no_number n) h = n h
of_number _ h = tt

pub held_class : (line : List ℕ) (t u : Tree) (c : Class (spelling_of line u)) → Json line t → IsWithinTree t u
    → kind_of u ≡ Number → IsOfNumber c
held_class line t u c json h e = of_number c (held_number line t u json h e)

-- ---- what reading a number says of its findings

in-range : (s : List ℕ) (t : Tree) → IsNumberInRange s → value_findings (λ v. []) t (decimal_of s) ≡ []
in-range s t o = ap (value_findings (λ v. []) t) (decimal_is s o.0 o.1 o.2)

-- ---- what reading a whole number answers

-- what is told of a number that was read is told of a whole one, too
by-class : {X : Type 0} (f : Result DecimalNumber DecimalFault → X) (g : Result (Option ℤ) DecimalFault → X)
    → ((v : DecimalNumber) → f (Ok v) ≡ g (Ok (as_whole v))) → ((e : DecimalFault) → f (Err e) ≡ g (Err e))
    → {s : List ℕ} (c : Class s) → f (decimal_of s) ≡ g (whole_answer c)
by-class f g some none {s} c = search (arith, whole_class)

-- what the rule on an index finds of a number that was read
abbrev pub IndexFindings : Reason → Option ℕ → Tree → Result DecimalNumber DecimalFault → List Finding
IndexFindings reason count t r =
    value_findings (λ v. whole_findings (λ w. cond (is_outside count w) (one reason t) []) t (as_whole v)) t r

-- the findings of an index by it
abbrev pub index-by : Reason → Option ℕ → Tree → Result (Option ℤ) DecimalFault → List Finding
index-by reason count t (Ok None) = one NotWhole t
index-by reason count t (Ok (Some w)) = cond (is_outside count w) (one reason t) []
index-by reason count t (Err e) = one (fault_reason e) t

index-class : {s : List ℕ} (reason : Reason) (count : Option ℕ) (t : Tree) (c : Class s)
    → IndexFindings reason count t (decimal_of s) ≡ index-by reason count t (whole_answer c)
index-class reason count t c =
    by-class (IndexFindings reason count t) (index-by reason count t) (λ v. by_whole (as_whole v)) (λ e. refl) c
  where
    by_whole : (o : Option ℤ) → whole_findings (λ w. cond (is_outside count w) (one reason t) []) t o
        ≡ index-by reason count t (Ok o)
    by_whole None = refl
    by_whole (Some w) = refl

-- the findings of a number by it
abbrev pub number-by : Tree → Result (Option ℤ) DecimalFault → List Finding
number-by t (Ok o) = []
number-by t (Err e) = one (fault_reason e) t

number-class : {s : List ℕ} (t : Tree) (c : Class s) → value_findings (λ v. []) t (decimal_of s)
    ≡ number-by t (whole_answer c)
number-class t c = by-class (value_findings (λ v. []) t) (number-by t) (λ v. refl) (λ e. refl) c

-- the whole number by it
abbrev pub whole-if : Result (Option ℤ) DecimalFault → Option ℤ
whole-if (Ok o) = o
whole-if (Err e) = None

whole-class : {s : List ℕ} (c : Class s) → option_and_then as_whole (result_ok (decimal_of s))
    ≡ whole-if (whole_answer c)
whole-class c = by-class (λ r. option_and_then as_whole (result_ok r)) whole-if (λ v. refl) (λ e. refl) c

-- a whole number that went to bits and back
pub whole-fits : (w : ℤ) → unsigned_abs w < 10 ^ 18 → to_z w64 (of_z w64 w) ≡ w
whole-fits w small = to_z-of_z w64 w (fits_signed_from_abs w64 w (omega arith))

-- ---- of a tree that has a whole number
pub whole-kind : (t : Tree) (w : ℤ) → whole_of t ≡ Some w → kind_of t ≡ Number
whole-kind (scalar Number a) w is = refl
whole-kind _ w is = absurd (cc is)

-- a rule on a whole number is that on its value
pub rule-of-whole : (rule : ℤ → List Finding) (t : Tree) (w : ℤ) → whole_of t ≡ Some w → of_whole rule t ≡ rule w
rule-of-whole rule t w is = search arith

pub index-of-whole : (t : Tree) (w : ℤ) → whole_of t ≡ Some w → (reason : Reason) (count : Option ℕ)
    → index reason count t ≡ cond (is_outside count w) (one reason t) []
index-of-whole t w is reason count = rule-of-whole (λ w. cond _ (one reason t) []) t w is

-- an index has no finding but at itself
pub index-hidden : {found : Option Finding} (t : Tree) → ((r : Reason) → least found (one r t) ≡ found)
    → (reason : Reason) (count : Option ℕ) → least found (index reason count t) ≡ found
index-hidden {found} t same reason count = search arith

-- a whole number is below 10^18 in size
pub whole-small : (t : Tree) → unsigned_abs (unwrap_or (whole_of t) (pos 0)) < 10 ^ 18
whole-small t = search arith

-- ---- of a tree of the kind

module _ (line : List ℕ) (t : Tree) (kind : kind_of t ≡ Number) where
  spelled : spelling_of line t ≡ spelling t
  spelled = search arith

  pub number-in : IsNumberInRange (spelling_of line t) → number t ≡ []
  number-in o = rw kind (in-range (spelling t) t (rw spelled at o))

  pub number-fault : (e : DecimalFault) → (e ≡ NotANumber → ¬ SpellsNumber (spelling_of line t))
      → (e ≡ OutOfRange → IsNumberOutOfRange (spelling_of line t)) → number t ≡ one (fault_reason e) t
  number-fault e none out =
      rw kind (number-class t _
      ∙ ap (number-by t) (answer_fault (spelling t) e (class (spelling t)) (rw spelled at none) (rw spelled at out)))

  -- with what a call has read of the spelling, which is s
  module _ (s : List ℕ) (same : s ≡ spelling_of line t) (r q : Result (Option ℤ) DecimalFault)
      (read : (c : Class s) → r ≡ whole_answer c) (is : r ≡ q) where
    answer : whole_answer (class (spelling t)) ≡ q
    answer = sym ((rw (same ∙ spelled) at read) _) ∙ is

    pub index-read : (reason : Reason) (count : Option ℕ) → index reason count t ≡ index-by reason count t q
    index-read reason count = search (arith, index-class, class, answer)

    pub whole-read : whole_of t ≡ whole-if q
    whole-read = rw kind (whole-class _ ∙ ap whole-if answer)

    pub number-read : number t ≡ number-by t q
    number-read = rw kind (number-class t _ ∙ ap (number-by t) answer)

  -- with the whole number that a call may have read of it
  module _ (s : List ℕ) (same : s ≡ spelling_of line t) where
    pub whole-there : (w : ℤ) → ((c : Class s) → whole_answer c ≡ Ok (Some w)) → whole_of t ≡ Some w
    whole-there w answer = whole-read s same (Ok (Some w)) (Ok (Some w)) (λ c. sym (answer c)) refl

    pub few-read : (o : Option ℕ) → IfSome o (λ n. (c : Class s) → whole_answer c ≡ Ok (Some (pos n)))
        → IfSome o (λ n. n < 10 ^ 18) → IfSome o (λ n. (n < 10 ^ 18) × (whole_of t ≡ Some (pos n)))
    few-read None answer small = answer
    few-read (Some n) answer small = (small, whole-there (pos n) answer)

    pub few-signed-read : (o : Option ℤ) → IfSome o (λ w. (c : Class s) → whole_answer c ≡ Ok (Some w))
        → IfSome o (λ w. whole_of t ≡ Some w)
    few-signed-read None answer = answer
    few-signed-read (Some w) answer = whole-there w answer

-- ---- what stands in a line as few digits is a number
digit-kind : (b : ℕ) → 45 ≤ b → b < 64 → kind_by b ≡ Number
digit-kind b low high = grind (arith, nat_tests)

int-first : (s : List ℕ) → IsInt s → (45 ≤ get_or s 0 0) × (get_or s 0 0 < 64)
int-first [] int = absurd int
int-first (b ∷ t) (inl zero) = (omega arith, omega arith)
int-first (b ∷ t) (inr more) = search arith

signed-first : (s : List ℕ) → IsFewSigned s → (45 ≤ get_or s 0 0) × (get_or s 0 0 < 64)
signed-first s (inl few) = int-first s few.0
signed-first s (inr minus) = search arith

kind-at : (line : List ℕ) (start stop : ℕ) → start < stop → (45 ≤ get_or (slice_range line start stop) 0 0)
    × (get_or (slice_range line start stop) 0 0 < 64) → kind_by (byte line start) ≡ Number
kind-at line start stop order first = search (arith, first_is, digit-kind)

-- where a node stands, and what was read there
module _ {line b : List ℕ} (t : Tree) (start stop : ℕ) (e : b ≡ line) (order : start < stop)
    (same : slice_range line start stop ≡ spelling_of line t) (kind : kind_by (byte line start) ≡ kind_of t) where
  read-there : (w : ℤ) → kind_by (byte line start) ≡ Number
      → ((c : Class (slice_range b start stop)) → whole_answer c ≡ Ok (Some w)) → whole_of t ≡ Some w
  read-there w number answer =
      whole-there line t (sym kind ∙ number) _ same w (rw e at answer)

  pub few-there : (n : ℕ) → IsFewDigits (slice_range b start stop)
      → ((c : Class (slice_range b start stop)) → whole_answer c ≡ Ok (Some (pos n))) → whole_of t ≡ Some (pos n)
  few-there n few answer = search (arith, read-there, kind-at, int-first)

  pub signed-there : (w : ℤ) → IsFewSigned (slice_range b start stop)
      → ((c : Class (slice_range b start stop)) → whole_answer c ≡ Ok (Some w)) → whole_of t ≡ Some w
  signed-there w few answer =
      read-there w (kind-at line start stop order (signed-first _ (rw e at few))) answer

  pub few-there-if : (o : Option ℕ) → (IsSome o → IsFewDigits (slice_range b start stop))
      → IfSome o (λ n. (c : Class (slice_range b start stop)) → whole_answer c ≡ Ok (Some (pos n)))
      → IfSome o (λ n. n < 10 ^ 18) → IfSome o (λ n. (n < 10 ^ 18) × (whole_of t ≡ Some (pos n)))
  few-there-if None few answer small = answer
  few-there-if (Some n) few answer small = (small, few-there n (few refl) answer)

  pub signed-there-if : (o : Option ℤ) → (IsSome o → IsFewSigned (slice_range b start stop))
      → IfSome o (λ w. (c : Class (slice_range b start stop)) → whole_answer c ≡ Ok (Some w))
      → IfSome o (λ w. whole_of t ≡ Some w)
  signed-there-if None few answer = answer
  signed-there-if (Some w) few answer = signed-there w (few refl) answer

  -- of the values that a scan accepted, none but a number begins as one
  pub begun-there : (kind_of t ≡ Number → scanned.IsNumber (slice_range line start stop))
      → IsNumberIfBegun (slice_range b start stop)
  begun-there number =
      rw e (grind (arith, read_number, kind-at))

  pub word-there-if : (o : Option ℕ) → kind_of t ≡ Number
      → IfSome o (λ d. (n : ℕ) × IsWordOf d n
      × ((c : Class (slice_range b start stop)) → whole_answer c ≡ Ok (Some (pos n))))
      → IfSome o (λ d. (n : ℕ) × IsWordOf d n × (whole_of t ≡ Some (pos n)))
  word-there-if None number read = read
  word-there-if (Some d) number read = (read.0, read.1, read-there (pos read.0) (kind ∙ number) read.2)

-- what attributes of functions name
pub ruleset number_facts = (begun-there, index-hidden)
