-- Texts that are written one part after another, and what came of it.
use Rattle.cityseq_command.proofs.Common.{Appends, AppendsPart, List, Option, [], ap, append-nil, arith, check_text, codes, flat_map, get_or, map, refl, sym, take, ℕ, ◌++◌, ◌∙◌, ◌∷◌, ◌≡◌, Channel, Err, HasRisen, Ok, Report, Result, Took, Wrote, WroteAfter, channel, subst}
use Rattle.std.proofs.Common.{◌+◌, ◌<◌, length, drop, append_assoc, decimal, take-append-drop, ◌≤◌, IsErr, take_all}
use Rattle.std.proofs.lemmas.Grind.{flat_map-append}
use Rattle.std.proofs.lemmas.List.{take_more}
use Rattle.cj_stream.specs.Lines.{joined}
use Rattle.cj_stream.specs.declared.output.WriteFault.{WriteFault}
use Rattle.cityseq_command.specs.ReportWriter.{WritesReport, lent_output, loan_name, report_line, report_lines, writing}
use Rattle.cityseq_command.specs.declared.report_writer.WriteReports.{WriteReports}

-- ---- texts that are written one part after another

-- ---- known bytes that grow twice

pub Appends-nothing : (a : Option (List ℕ)) → Appends a a []
Appends-nothing a = grind (arith, append-nil)

-- some bytes, and then others
pub Appends-then : (a b c : Option (List ℕ)) (x y : List ℕ) → Appends a b x → Appends b c y → Appends a c (x ++ y)
Appends-then a b c x y p q = grind (arith, append_assoc)

-- some bytes, and then a prefix of others
pub AppendsPart-after : (a b c : Option (List ℕ)) (x y : List ℕ) → Appends a b x → AppendsPart b c y
    → AppendsPart a c (x ++ y)
AppendsPart-after a b c x y p q = grind (arith, append_assoc, Appends-then)

-- a prefix of some bytes, of which others follow
pub AppendsPart-front : (a b : Option (List ℕ)) (x y : List ℕ) → AppendsPart a b x → AppendsPart a b (x ++ y)
AppendsPart-front a b x y q = grind (arith, append_assoc)

-- ---- parts of a list

-- parts that are joined stand one behind the other
pub joined-map : {A : Type 0} (f : A → List ℕ) (xs : List A) → joined (map f xs) ≡ flat_map f xs
joined-map f [] = refl
joined-map f (x ∷ xs) = grind (arith, joined-map f xs)

module _ {A : Type 0} (f : A → List ℕ) (xs : List A) (i : ℕ) where
  -- one part more
  pub parts_more : (d : A) → i < length xs → flat_map f (take (i + 1) xs) ≡ flat_map f (take i xs) ++ f (get_or xs i d)
  parts_more d small =
      ap (flat_map f) (take_more xs i d small)
      ∙ flat_map-append f (take i xs) (get_or xs i d ∷ [])
      ∙ ap (λ z. flat_map f (take i xs) ++ z) (append-nil (f (get_or xs i d)))

  -- all parts: those before one, that one, and those after it
  pub parts_at : (d : A) → i < length xs → flat_map f xs ≡ (flat_map f (take i xs) ++ f (get_or xs i d))
      ++ flat_map f (drop (i + 1) xs)
  parts_at d small =
      ap (flat_map f) (sym (take-append-drop (i + 1) xs))
      ∙ flat_map-append f (take (i + 1) xs) (drop (i + 1) xs)
      ∙ ap (λ z. z ++ flat_map f (drop (i + 1) xs)) (parts_more d small)

-- ---- what `check` says of a stream with lines that are refused

pub check-refused : (lines features refused : ℕ) → 0 < refused
    → check_text lines features refused
    ≡ joined (codes "invalid lines=" ∷ decimal lines ∷ codes " features=" ∷ decimal features ∷ codes " refused="
    ∷ decimal refused ∷ codes "\n" ∷ [])
check-refused lines features refused some = grind arith

-- ---- what came of writing texts, one after another

-- the empty text is written by nothing
pub Wrote-nothing : (v : Unit {0}) (a : Channel) → Wrote [] (Ok v) a a
Wrote-nothing v a = record { whole = Appends-nothing a.bytes; front = tt; failures = refl }

module _ {x y : List ℕ} {v : Unit {0}} {a b c : Channel} where
  -- one text, and what came of the one after it
  pub Wrote-then : {r : Result (Unit {0}) WriteFault} → Wrote x (Ok v) a b → Wrote y r b c → Wrote (x ++ y) r a c
  Wrote-then {r = Ok w} p q = record {
    whole = Appends-then a.bytes b.bytes c.bytes x y p.whole q.whole;
    front = tt;
    failures = q.failures ∙ p.failures;
  }
  Wrote-then {r = Err e} p q = record {
    whole = tt;
    front = AppendsPart-after a.bytes b.bytes c.bytes x y p.whole q.front;
    failures = subst (λ n. HasRisen n c.failures) p.failures q.failures;
  }

-- the last text
pub Wrote-last : {r : Result (Unit {0}) WriteFault} {x : List ℕ} {a b : Channel} → Wrote x r a b → Wrote (x ++ []) r a b
Wrote-last {x = x} p = rw (append-nil x) p

module _ {x : List ℕ} {a b : Channel} (y : List ℕ) where
  -- a text that failed, before another that was to follow
  pub Wrote-front : {r : Result (Unit {0}) WriteFault} → IsErr r → Wrote x r a b → Wrote (x ++ y) r a b
  Wrote-front {r = Ok v} is p = absurd (cc is)
  Wrote-front {r = Err e} is p =
      record { whole = tt; front = AppendsPart-front a.bytes b.bytes x y p.front; failures = p.failures }

  -- any answer that is a failure does
  pub Wrote-stops : {r : Result (Unit {0}) WriteFault} {e : WriteFault} → IsErr r → Wrote x (Err e) a b
      → Wrote (x ++ y) r a b
  Wrote-stops {r = Ok v} is p = absurd (cc is)
  Wrote-stops {r = Err f} is p = Wrote-front is (record { whole = tt; front = p.front; failures = p.failures })

-- ---- after other texts

-- a text after others, and then one more
pub WroteAfter-then : (p q r : Result (Unit {0}) WriteFault) (x y : List ℕ) (a b c : Channel) → WroteAfter p x q a b
    → WroteAfter q y r b c → WroteAfter p (x ++ y) r a c
WroteAfter-then (Ok v) (Ok w) r x y a b c first second = Wrote-then first second
WroteAfter-then (Ok v) (Err e) r x y a b c first second =
    rw (second.0, second.1) (record {
      whole = tt;
      front = AppendsPart-front a.bytes b.bytes x y first.front;
      failures = first.failures;
    })
WroteAfter-then (Err e) q r x y a b c first second = grind arith

WroteAfter-nothing : (p : Result (Unit {0}) WriteFault) (a : Channel) → WroteAfter p [] p a a
WroteAfter-nothing (Ok v) a = Wrote-nothing v a
WroteAfter-nothing (Err e) a = (refl, refl)

-- reports that a sink wrote, in turn
pub wrote-reports : {E : Type 0} (contents : E → Option (List ℕ)) (xs : List Report) (a b : WriteReports E)
    → Took (WritesReport contents) a xs b
    → (loan_name b ≡ loan_name a)
    × WroteAfter (writing a) (report_lines xs) (writing b) (channel contents (lent_output a))
    (channel contents (lent_output b))
wrote-reports contents [] a b took = grind (arith, WroteAfter-nothing)
wrote-reports contents (x ∷ xs) a b took =
    let rest = wrote-reports contents xs took.0 b took.2 in (
      rest.0 ∙ took.1.same_loan,
      WroteAfter-then (writing a) (writing took.0) (writing b) (report_line x) (report_lines xs) _ _ _ took.1.line
          rest.1,
    )

-- ---- parts of a list

module _ {A : Type 0} (f : A → List ℕ) (xs : List A) (i : ℕ) {a b : Channel}
    (before : Wrote (flat_map f (take i xs)) (Ok tt) a b) where
  -- one part more
  pub part-wrote : {c : Channel} {v : Unit {0}} (d : A) → i < length xs → Wrote (f (get_or xs i d)) (Ok v) b c
      → Wrote (flat_map f (take (i + 1) xs)) (Ok tt) a c
  part-wrote d small now =
      rw (parts_more f xs i d small)
      (Wrote-then before (record { whole = now.whole; front = tt; failures = now.failures }))

  -- one part that failed
  pub part-stops : {c : Channel} {r : Result (Unit {0}) WriteFault} {e : WriteFault} → IsErr r → (d : A) → i < length xs
      → Wrote (f (get_or xs i d)) (Err e) b c → Wrote (flat_map f xs) r a c
  part-stops is d small now = rw (parts_at f xs i d small) (Wrote-stops _ is (Wrote-then before now))

  -- all parts
  pub parts-wrote : length xs ≤ i → Wrote (flat_map f xs) (Ok tt) a b
  parts-wrote all = grind (arith, take_all)
