use Rattle.std.proofs.Common.{arith}
use Rattle.std.proofs.Common.{◌≡◌, ◌∙◌, ℕ, List, Bool, Option, Some, None, Result, Ok, Err, refl, ap, if◌then◌else◌, MatchResult, option_map}
use Rattle.std.proofs.lemmas.Result.{err_from_is_err_and}
use Rattle.cj_stream.specs.Meaning.Criteria.{Criteria, ChosenTypes, Box}
use Rattle.cj_stream.specs.Adding.{DeclinesTypes}
use Rattle.cj_stream.specs.Usual.{everything}
use Rattle.cj_stream.specs.BoxText.{fields, box_text}
use Rattle.cj_stream.specs.Query.{criteria}
use Rattle.cj_stream.specs.declared.query.fault.QueryFault.{QueryFault}
use Rattle.cj_stream.specs.declared.query.fault.QueryFault.TheVariants.{Memory, BadBox, BoxRange, EmptyBox}
use Rattle.cityseq_command.specs.Options.{Texts, types_or_fault, types_wanted, box_or_fault, box_wanted, criteria_by, texts_of, DeclinesTexts}
use Rattle.cityseq_command.proofs.asking.query_of.Goals.{in-Some+in_ok-set_ids, in_default, in-Some-types+in_ok-set_types, in_default-types, in-Some-lods+in_ok-set_lods, in_default-lods, in-Some-bbox+in_ok-bbox, in_default-bbox}
use Rattle.cityseq_command.proofs.asking.query_of.Goals as goal

-- what `bbox` and `set_types` answer, with the criteria before and after
module _ (r : Result (Unit {0}) QueryFault) (old new : Criteria) where
  abbrev SetsBox : Result Box QueryFault → Type 0
  SetsBox box =
      MatchResult box (λ box. (r ≡ Ok tt) × (new ≡ record old { box = Some box }))
      (λ fault. (r ≡ Err fault) × (new ≡ old))

  types-set : (types : Option ChosenTypes)
      → option_map (λ (types : ChosenTypes). record old { types = Some types }) types ≡ Some new
      → (types_or_fault types ≡ Ok new.types) × (new ≡ record old { types = new.types })
  types-set types h = grind arith

  box-set : (box : Result Box QueryFault) → SetsBox box → r ≡ Ok tt → (box_or_fault box ≡ Ok new.box)
      × (new ≡ record old { box = new.box })
  box-set box h ok = grind arith

  box-declined : (fault : QueryFault) (box : Result Box QueryFault) → SetsBox box → r ≡ Err fault → box ≡ Err fault
  box-declined fault box h err = grind arith

-- memory is no reason to decline a box
declined-by-text : (wrong wide empty : Bool) (box : Box)
    → (if wrong then Err BadBox else if wide then Err BoxRange else if empty then Err EmptyBox else Ok box) ≡ Err Memory
    → ⊥
declined-by-text wrong wide empty box e = grind arith

box-takes-none : (s : List ℕ) → box_text s ≡ Err Memory → ⊥
box-takes-none s =
    grind (arith, declined-by-text)

pub returns-clause-ok : goal.returns-clause-ok
returns-clause-ok c =
    let texts = texts_of c.args.texts.now in
    let first = criteria c.match-texts.query in
    let second = criteria c.match-texts-2.query in
    let third = criteria c.match-texts-3.query in
    let last = criteria c.match-texts-4.query in
    let ids : first ≡ record everything { ids = option_map fields texts.ids } =
    elim c.match-texts.branch [
      | in-Some+in_ok-set_ids w ↦
          rw (w.query-is, w.in_ok-set_ids.ensures.ok, c.all-query.ensures.all, w.in-Some.is) refl
      | in_default w ↦ rw (w.query-is, c.all-query.ensures.all, w.in_default.is) refl
    ] in
    let types : (types_wanted c.args.extensions texts.types ≡ Ok second.types)
    × (second ≡ record first { types = second.types }) =
    elim c.match-texts-2.branch [
      | in-Some-types+in_ok-set_types w ↦
          rw (w.query-is, w.in-Some-types.is)
          (types-set w.set_types.result first (criteria w.set_types.new.self) _ w.in_ok-set_types.ensures.ok)
      | in_default-types w ↦ rw (w.query-is, w.in_default-types.is, ids) (refl, refl)
    ] in
    let lods : third ≡ record second { lods = option_map fields texts.lods } =
    elim c.match-texts-3.branch [
      | in-Some-lods+in_ok-set_lods w ↦ rw (w.query-is, w.in_ok-set_lods.ensures.ok, w.in-Some-lods.is) refl
      | in_default-lods w ↦ rw (w.query-is, w.in_default-lods.is, types.1, ids) refl
    ] in
    let box : (box_wanted texts.box ≡ Ok last.box) × (last ≡ record third { box = last.box }) =
    elim c.match-texts-4.branch [
      | in-Some-bbox+in_ok-bbox w ↦
          rw (w.query-is, w.in-Some-bbox.is)
          (box-set w.bbox.result third (criteria w.bbox.new.self) _ w.bbox.ensures.asks w.in_ok-bbox.was)
      | in_default-bbox w ↦ rw (w.query-is, w.in_default-bbox.is, lods, types.1, ids) (refl, refl)
    ] in
    rw (types.0, box.0, box.1, lods, types.1, ids) refl

-- a fault that is no want of memory is that of the texts
declined : (e : Bool) (t : Texts) (fault : QueryFault) → criteria_by e t ≡ Err fault → (fault ≡ Memory → ⊥)
    → DeclinesTexts e t fault
declined e t fault asks other = grind arith

-- a fault of the names of types is one of the texts
types-decline : (e : Bool) (t : Texts) (text : List ℕ) → t.types ≡ Some text → (fault : QueryFault)
    → DeclinesTypes e (fields text) fault → DeclinesTexts e t fault
types-decline e t text is fault h = grind arith

pub returns-in_err-set_ids-clause-err : goal.returns-in_err-set_ids-clause-err
returns-in_err-set_ids-clause-err c =
    grind (arith, err_from_is_err_and)

pub returns-in_err-set_types-clause-err : goal.returns-in_err-set_types-clause-err
returns-in_err-set_types-clause-err c =
    grind (arith, err_from_is_err_and, types-decline)

pub returns-in_err-set_lods-clause-err : goal.returns-in_err-set_lods-clause-err
returns-in_err-set_lods-clause-err c =
    grind (arith, err_from_is_err_and, types-set)

pub returns-in_err-bbox-clause-err : goal.returns-in_err-bbox-clause-err
returns-in_err-bbox-clause-err c =
    let texts = texts_of c.args.texts.now in
    let types : (found : Option ChosenTypes) × (types_wanted c.args.extensions texts.types ≡ Ok found) =
    elim c.match-texts-2.branch [
      | in-Some-types+in_ok-set_types w ↦
          rw w.in-Some-types.is (
            _,
            (types-set w.set_types.result (criteria c.match-texts.query) (criteria w.set_types.new.self) _
                w.in_ok-set_types.ensures.ok).0,
          )
      | in_default-types w ↦ rw w.in_default-types.is (None, refl)
    ] in
    let fault = c.in_err-bbox.field-0.0 in
    let box = box-declined c.bbox.result (criteria c.match-texts-3.query) (criteria c.bbox.new.self) fault
    (box_text c.in-Some-bbox.bbox.now) c.bbox.ensures.asks c.in_err-bbox.was in
    let asks : criteria_by c.args.extensions texts ≡ Err fault = rw (types.1, c.in-Some-bbox.is, box) refl in
    let returned = err_from_is_err_and c.from_residual-in_err-bbox.result c.from_residual-in_err-bbox.ensures.1 in
    rw (returned.1, returned.2)
    (declined c.args.extensions texts fault asks (λ same. box-takes-none c.in-Some-bbox.bbox.now (box ∙ ap Err same)))
