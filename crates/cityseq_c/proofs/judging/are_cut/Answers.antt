use Rattle.std.proofs.Common.{◌+◌, ◌∙◌, ap, length, nat_eq, sym, eqb-true, eq-eqb}
use Rattle.cityseq_c.proofs.CursorLemmas.{cut-last, cut-none, last-cut, none-cut, empty-length}
use Rattle.cityseq_c.proofs.judging.are_cut.Goals as goal

pub returns-in-Some : goal.returns-in-Some
returns-in-Some c =
    let k = c.in-Some.place in (
      λ is. cut-last c.args.header.now c.args.part.now k c.in-Some.ensures
          (eqb-true (k + 1) (length c.args.header.now) is),
      λ cut. eq-eqb (k + 1) (length c.args.header.now)
          (last-cut c.args.header.now c.args.part.now k c.in-Some.ensures cut),
    )

pub returns-in-None : goal.returns-in-None
returns-in-None c = (
  λ is. none-cut c.args.header.now c.args.part.now c.in-None.ensures
      (empty-length c.args.part.now (sym c.is_empty.ensures ∙ is)),
  λ cut. c.is_empty.ensures
      ∙ ap (λ s. nat_eq (length s) 0) (cut-none c.args.header.now c.args.part.now c.in-None.ensures cut),
)
