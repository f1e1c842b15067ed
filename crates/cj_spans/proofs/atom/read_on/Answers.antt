use Rattle.cj_spans.proofs.Common.{◌+◌, refl, sym, ◌∙◌}
use Rattle.cj_spans.proofs.Atoms.{goes_far, goes_one, goes_same}
use Rattle.cj_spans.proofs.atom.read_on.Goals as goal

pub loop-stop-init : goal.loop-stop-init
loop-stop-init c = let s = c.skip-stop.ensures in
    goes_same s.same s.order s.end

pub loop-stop-preserved : goal.loop-stop-preserved
loop-stop-preserved c =
    let s = c.skip-stop-in-Some.ensures in let b = c.args.line.now in let i = c.loop-stop.stop in
    let one = goes_one b i (i + 1) c.loop-stop.read c.in-Some.next c.loop-stop-test.true refl
    (sym c.lex_step.ensures ∙ c.in-Some.is) in
    goes_far c.loop-stop.invariant (goes_far one (goes_same s.same s.order s.end))
