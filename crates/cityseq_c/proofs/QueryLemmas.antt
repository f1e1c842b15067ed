-- What is asked for: texts, types, boxes and bits, and what is wrong with a query.
use Rattle.cityseq_c.proofs.Common.{Bool, Bor, Err, IsUtf8, List, MatchResult, Ok, Result, Some, false, is_ok, is_utf8, not, text_asked, true, ℕ, ◌≡◌, arith, Box, Criteria, QueryFault, edges_by, items, length, slice_split, NotJudged, OnOk, Request, types_or_fault, ChosenTypes, DeclinesCall, Fault, IsFit, Memory, None, Option, cond, fault_of, inr, RisesBy, [], add-one, ap, bits, eqb-false, filter, get_or, is_among, max, mod-le, nat_tests, pow_more, refl, subst, suc, sym, zero, ◌+◌, ◌-◌, ◌<◌, ◌^◌, ◌∙◌, ◌∷◌, ◌≤◌}
use Rattle.std.proofs.lemmas.Str.{is_utf8-from_IsUtf8, IsUtf8-from_is_utf8}
use Rattle.cityseq_c.specs.declared.request.Fault.TheVariants.{NotUtf8, LineLimit, DepthLimit, NoLine, UnknownType, BadBox, BoxRange, EmptyBox, TooLong}
use Rattle.cj_stream.specs.Adding.{with_box, no_types, setting_types, with_types, DeclinesTypes as DeclinesAll}
use Rattle.std.proofs.Common.{nat_eq, ◌*◌, ◌%◌, w64, eqb-true, pow_pos}
use Rattle.cityseq_c.specs.Query.{type_fault, DeclinesNames, DeclinesTypes, DeclinesPart, DeclinesQuery, DeclinesTexts}
use Rattle.cityseq_c.specs.Request.{AsksFor, box_asked, box_by, ids_asked, lods_asked, or_fault, texts_by, types_asked, types_by}
use Rattle.cityseq_c.specs.declared.request.Fault.{Fault as WrongFault}
use Rattle.std.specs.Prelude.{nat_lt}
use Rattle.std.specs.Int.{bit_at}
use Rattle.std.specs.Int.Bits.{bit_or}
use Rattle.std.proofs.Math.Pow.{pow-lt}
use Rattle.std.proofs.lemmas.Nat.{or_lt}
use Rattle.std.proofs.lemmas.Nat.Bits.{bit_at-lt, bit_at-zero, bit_at_above, bit_at_cat_high, bit_at_cat_low, bit_at_lowest, bit_at_set_other, bit_at_set_same, same_from_bits_below}

-- ---- texts that are asked for, and those that are UTF-8

pub asked-text : (asked : Bool) (s : List ℕ) → asked ≡ true → IsUtf8 s → text_asked asked s ≡ Ok (Some s)
asked-text asked s is text = grind (arith, is_utf8-from_IsUtf8)

pub not_text : (b : Bool) (s : List ℕ) → is_utf8 s ≡ b → ¬ (IsUtf8 s) → is_utf8 s ≡ false
not_text true s is none = absurd (none (IsUtf8-from_is_utf8 s is))
not_text false s is none = is

pub asked-bytes : (asked : Bool) (s : List ℕ) → asked ≡ true → ¬ (IsUtf8 s) → text_asked asked s ≡ Err NotUtf8
asked-bytes asked s is none = grind (arith, not_text)

-- what `from_utf8` answers
pub is-text : {E : Type 0} (P : E → Type 0) (s : List ℕ) (r : Result (Bor (List ℕ)) E)
    → MatchResult r (λ t. (t.now ≡ s) × IsUtf8 s) (λ e. ¬ (IsUtf8 s) × P e) → is_ok r ≡ is_utf8 s
is-text P s r shown = grind (arith, is_utf8-from_IsUtf8, not_text)

pub not-flipped : (b c : Bool) → c ≡ not b → b ≡ not c
not-flipped b c is = grind arith

-- ---- what is set of a box, by what its text answers

module _ (r : Result (Unit {0}) QueryFault) (old new : Criteria) where
  abbrev Sets : Result Box QueryFault → Type 0
  Sets box = MatchResult box (λ box. (r ≡ Ok tt) × (new ≡ with_box box old)) (λ fault. (r ≡ Err fault) × (new ≡ old))

  pub box-set : (v : Unit {0}) (box : Result Box QueryFault) → Sets box → r ≡ Ok v → (edges_by box ≡ Ok new.box)
      × (new ≡ record old { box = new.box })
  box-set v box h ok = grind arith

  pub box-declined : (fault : QueryFault) (box : Result Box QueryFault) → Sets box → r ≡ Err fault → box ≡ Err fault
  box-declined fault box h err = grind arith

-- ---- the items of a text

-- the items of a text that is not empty
pub items-some : (s : List ℕ) → nat_eq (length s) 0 ≡ false → items s ≡ slice_split (λ c. nat_eq c 10) s
items-some s some = grind arith

-- ---- what is set of the names of types, and what is declined of them

module _ (old new : Criteria) where
  pub types-set : (extensions : Bool) (names : List (List ℕ)) (r : Result (Unit {0}) NotJudged)
      → OnOk r (setting_types extensions names old ≡ Some new)
      → OnOk r ((types_or_fault (with_types extensions names no_types) ≡ Ok new.types)
      × (new ≡ record old { types = new.types }))
  types-set extensions names r h = grind arith

-- what a query declines of names is declined of them
pub names-declined : (extensions : Bool) (names : List (List ℕ)) (fault : QueryFault)
    → DeclinesAll extensions names fault → DeclinesNames extensions names (type_fault fault)
names-declined extensions names fault h = grind arith

-- and so is the part on types
pub part-declined : (r : Request) (text : List ℕ) → text_asked r.asks_types r.types.now ≡ Ok (Some text)
    → (why : NotJudged) → DeclinesNames r.extensions (items text) why → DeclinesTypes r why
part-declined r text asked why h = grind arith

-- ---- what is wrong with a query is wrong with a request

-- a fault of a query
abbrev IsOfQuery : WrongFault → Type 0
IsOfQuery LineLimit = ⊥
IsOfQuery DepthLimit = ⊥
IsOfQuery NoLine = ⊥
IsOfQuery NotUtf8 = Unit {0}
IsOfQuery UnknownType = Unit {0}
IsOfQuery BadBox = Unit {0}
IsOfQuery BoxRange = Unit {0}
IsOfQuery EmptyBox = Unit {0}
IsOfQuery TooLong = ⊥

-- an answer has no other fault
abbrev Fails : {A : Type 0} → Result A WrongFault → Type 0
Fails (Ok x) = Unit {0}
Fails (Err fault) = IsOfQuery fault

utf8-fails : (b : Bool) (s : List ℕ) → Fails (cond b (Ok (Some s)) (Err NotUtf8))
utf8-fails b s = grind arith

texts-fail : (r : Result (Option (List ℕ)) WrongFault) → Fails r → Fails (texts_by r)
texts-fail r h = grind arith

types-fail : (extensions : Bool) (r : Result (Option (List ℕ)) WrongFault) → Fails r → Fails (types_by extensions r)
types-fail extensions r h = grind arith

edges-fail : (r : Result Box QueryFault) → Fails (edges_by r)
edges-fail r = grind arith

box-fails : (r : Result (Option (List ℕ)) WrongFault) → Fails r → Fails (box_by r)
box-fails r h = grind (arith, edges-fail)

-- the first fault of several answers
abbrev MayBe : Option WrongFault → Type 0
MayBe None = Unit {0}
MayBe (Some fault) = IsOfQuery fault

first-fails : {A : Type 0} (r : Result A WrongFault) (later : Option WrongFault) → Fails r → MayBe later
    → MayBe (or_fault r later)
first-fails r later h more = grind arith

fault-may : (r : Request) → MayBe (fault_of r)
fault-may r =
    grind (arith, first-fails, texts-fail, utf8-fails, types-fail, box-fails)

module _ (r : Request) (header part : List ℕ) (fit : IsFit r header part) where
  -- a query that is declined makes the call declined
  pub call-declined : (why : NotJudged) → DeclinesQuery r why → DeclinesCall r header part why
  call-declined (Fault LineLimit) is = grind (arith, fault-may)
  call-declined (Fault DepthLimit) is = grind (arith, fault-may)
  call-declined (Fault NoLine) is = grind (arith, fault-may)
  call-declined (Fault TooLong) is = grind (arith, fault-may)
  call-declined (Fault fault) is = (fit, is)
  call-declined Memory is = (fit, inr is)

-- ---- a query that is declined

pub ids-declined : (r : Request) (why : NotJudged) → DeclinesTexts (ids_asked r) why → DeclinesQuery r why
ids-declined r why is = grind arith

module _ (r : Request) (ids : Option (List (List ℕ))) (first : ids_asked r ≡ Ok ids) where
  pub types-declined : (why : NotJudged) → DeclinesTypes r why → DeclinesQuery r why
  types-declined why is = grind arith

  module _ (types : Option ChosenTypes) (second : types_asked r ≡ Ok types) where
    pub lods-declined : (why : NotJudged) → DeclinesTexts (lods_asked r) why → DeclinesQuery r why
    lods-declined why is = grind arith

    pub edges-declined : (lods : Option (List (List ℕ))) → lods_asked r ≡ Ok lods → (why : NotJudged)
        → DeclinesPart (box_asked r) why → DeclinesQuery r why
    edges-declined lods third why is = grind arith

-- a request whose parts are criteria has no fault
pub no-fault : (r : Request) (c : Criteria) → AsksFor r c → fault_of r ≡ None
no-fault r c x = grind arith

-- ---- numbers whose binary digits tell which numbers are among some

pub bits-none : (p : ℕ → Bool) → bits p 0 ≡ 0
unfolding bits
bits-none p = refl

pub bits-more : (p : ℕ → Bool) (n : ℕ) → bits p (n + 1) ≡ bits p n + cond (p n) (2 ^ n) 0
unfolding bits
bits-more p n = rw add-one refl

pub bits-same : (p q : ℕ → Bool) (size : ℕ) → ((n : ℕ) → n < size → p n ≡ q n) → bits p size ≡ bits q size
unfolding bits
bits-same p q zero h = refl
bits-same p q (suc n) h = grind (arith, bits-same p q n (λ k small. h k (omega arith)))

-- one more digit
pub bits-step : (p : ℕ → Bool) (index bit old new : ℕ) (b : Bool) → p index ≡ b → bit ≡ 2 ^ index → old ≡ bits p index
    → old < 2 ^ index → new ≡ cond b (old + bit) old
    → (bit * 2 ≡ 2 ^ (index + 1)) × (new ≡ bits p (index + 1)) × (new < 2 ^ (index + 1))
bits-step p index bit old new b is here before small now = grind (arith, pow_more, bits-more)

-- counts that rose from nothing tell which numbers are among some
pub bits-among : (size : ℕ) (old ns counts : List ℕ) → ((n : ℕ) → n < size → get_or old n 0 ≡ 0)
    → RisesBy size old ns counts
    → bits (λ n. nat_lt 0 (get_or counts n 0)) size ≡ bits (is_among ns) size
bits-among size old ns counts none rises =
    grind (arith, bits-same, nat_tests)

-- ---- the digits of such a number

abbrev pub digit : Bool → ℕ
digit b = cond b 1 0

-- one more digit above those of a number
digit-above : (a n : ℕ) (b : Bool) → a < 2 ^ n
    → (a + cond b (2 ^ n) 0 < 2 ^ (n + 1)) × (bit_at (a + cond b (2 ^ n) 0) n ≡ digit b)
    × ((i : ℕ) → i < n → bit_at (a + cond b (2 ^ n) 0) i ≡ bit_at a i)
digit-above a n true small =
    let e : a + 2 ^ n ≡ 1 * 2 ^ n + a = omega arith in
    let none : n - n ≡ 0 = omega arith in (
      omega (arith, small, pow_more 2 n),
      ap (λ m. bit_at m n) e ∙ (bit_at_cat_high 1 n a n small (omega arith) ∙ (ap (bit_at 1) none ∙ bit_at_lowest 1)),
      λ i low. ap (λ m. bit_at m i) e ∙ bit_at_cat_low 1 n a i low,
    )
digit-above a n false small =
    grind (arith, pow_more, bit_at_above)

-- a number is below a size, and its digit n is that of p
abbrev HasDigits : (ℕ → Bool) → ℕ → ℕ → Type 0
HasDigits p size bits = (bits < 2 ^ size) × ((i : ℕ) → i < size → bit_at bits i ≡ digit (p i))

digits-more : (p : ℕ → Bool) (n a : ℕ) → HasDigits p n a → HasDigits p (n + 1) (a + cond (p n) (2 ^ n) 0)
digits-more p n a h =
    let step = digit-above a n (p n) h.0 in (
      step.0,
      λ i low. go i low (nat_eq i n) refl step.1 step.2,
    )
  where
    go : (i : ℕ) → i < n + 1 → (b : Bool) → nat_eq i n ≡ b → bit_at (a + cond (p n) (2 ^ n) 0) n ≡ digit (p n)
        → ((k : ℕ) → k < n → bit_at (a + cond (p n) (2 ^ n) 0) k ≡ bit_at a k)
        → bit_at (a + cond (p n) (2 ^ n) 0) i ≡ digit (p i)
    go i low true e here below =
        subst (λ (k : ℕ). bit_at (a + cond (p n) (2 ^ n) 0) k ≡ digit (p k)) (sym (eqb-true i n e)) here
    go i low false e here below =
        let other = eqb-false i n e in
        let less : i < n = omega (arith, low, other) in
        below i less ∙ h.1 i less

pub bits-digits : (p : ℕ → Bool) (size : ℕ) → HasDigits p size (bits p size)
bits-digits p zero = grind (arith, bits-none)
bits-digits p (suc n) =
    subst (λ (k : ℕ). HasDigits p k (bits p k)) (add-one n)
    (rw (bits-more p n) (digits-more p n (bits p n) (bits-digits p n)))

-- ---- marks

-- digits were set on the way to all numbers, and the numbers `left` are left
pub record Marking (size : ℕ) (all : List ℕ) (marks : ℕ) (left : List ℕ) : Type 0 where
  pub small : marks < 2 ^ size
  pub set : (n : ℕ) → max (bit_at marks n) (digit (is_among left n)) ≡ digit (is_among all n)

-- at the start none is set
pub Marking-start : (size : ℕ) (all left : List ℕ) → left ≡ all → Marking size all 0 left
Marking-start size all left e = subst (λ (ns : List ℕ). Marking size all 0 ns) (sym e) (record {
  small = pow_pos size;
  set = λ n. omega (arith, bit_at-zero n);
})

digit-small : (b : Bool) → digit b ≤ 1
digit-small b = grind arith

one-among : (m : ℕ) → nat_lt 0 (suc m) ≡ true
one-among m = grind (arith, nat_tests)

-- the digit of a number is set, and the others stay
set-digit : (k marks next n : ℕ) (left : List ℕ) (total : ℕ) (b : Bool) → k < 64
    → next ≡ bit_or marks (1 * 2 ^ k % 2 ^ 64) → nat_eq n k ≡ b
    → max (bit_at marks n) (digit (nat_lt 0 (length (cond b (k ∷ filter (nat_eq n) left) (filter (nat_eq n) left)))))
    ≡ total
    → max (bit_at next n) (digit (is_among left n)) ≡ total
set-digit k marks next n left total true inside is e h =
    let here : bit_at (bit_or marks (1 * 2 ^ k % 2 ^ 64)) n ≡ 1 =
    subst (λ (j : ℕ). bit_at (bit_or marks (1 * 2 ^ k % 2 ^ 64)) j ≡ 1) (sym (eqb-true n k e))
    (bit_at_set_same w64 marks k inside) in
    let set : bit_at next n ≡ 1 = ap (λ m. bit_at m n) is ∙ here in
    let one : digit (nat_lt 0 (length (k ∷ filter (nat_eq n) left))) ≡ 1 =
    ap digit (one-among (length (filter (nat_eq n) left))) in
    omega (arith, set, one, h, bit_at-lt marks n, digit-small (is_among left n))
set-digit k marks next n left total false inside is e h =
    let stays : bit_at next n ≡ bit_at marks n = ap (λ m. bit_at m n) is
    ∙ bit_at_set_other w64 marks k inside n (eqb-false n k e) in
    omega (arith, stays, h)

pub Marking-step : (size : ℕ) (all : List ℕ) (marks k next : ℕ) (whole left : List ℕ) → k < size → size ≤ 64
    → whole ≡ k ∷ left → next ≡ bit_or marks (1 * 2 ^ k % 2 ^ 64)
    → Marking size all marks whole → Marking size all next left
Marking-step size all marks k next whole left inside few first is h =
    let within : k < 64 = omega (arith, inside, few) in
    let same : 1 * 2 ^ k ≡ 2 ^ k = omega arith in
    let power : 1 * 2 ^ k % 2 ^ 64 < 2 ^ size =
    omega (arith, same, mod-le (1 * 2 ^ k) (2 ^ 64), pow-lt {i = k} {j = size} inside) in
    record {
      small = subst (λ (m : ℕ). m < 2 ^ size) (sym is) (or_lt size marks (1 * 2 ^ k % 2 ^ 64) h.small power);
      set = λ n. set-digit k marks next n left _ (nat_eq n k) within is refl
          (subst (λ (ns : List ℕ). max (bit_at marks n) (digit (is_among ns n)) ≡ digit (is_among all n)) first
          (h.set n));
    }

-- at the end none is left
pub Marking-end : (size : ℕ) (all : List ℕ) (marks : ℕ) → Marking size all marks [] → marks ≡ bits (is_among all) size
Marking-end size all marks h =
    let d = bits-digits (is_among all) size in
    same_from_bits_below size marks (bits (is_among all) size) h.small d.0
    (λ i low. let e = h.set i in omega (arith, e) ∙ sym (d.1 i low))
