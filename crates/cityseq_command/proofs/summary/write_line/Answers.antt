use Rattle.cityseq_command.proofs.Common.{[], append-nil, arith, flat_map-map, sym, ◌∷◌}
use Rattle.cityseq_command.proofs.WroteLemmas.{Wrote-nothing, Wrote-then, Wrote-front, Wrote-stops, part-wrote, part-stops, parts-wrote}
use Rattle.cityseq_command.proofs.summary.write_line.Goals as goal

pub loop-word-init : goal.loop-word-init
loop-word-init g c = Wrote-nothing tt _

pub loop-word-preserved : goal.loop-word-preserved
loop-word-preserved g c =
    part-wrote (λ word. 32 ∷ word.now) c.args.words.now c.loop-word.word-index c.loop-word.invariant
    (record { ref_ptr = (0, 0); now = [] }) (omega arith) (rw append-nil at c.in_ok-write_texts.ensures)

pub returns-in_err-write_text : goal.returns-in_err-write_text
returns-in_err-write_text g c =
    Wrote-front _ c.from_residual.ensures.0 (Wrote-stops _ c.from_residual.ensures.0 c.in_err-write_text.ensures)

pub returns-in_err-write_texts : goal.returns-in_err-write_texts
returns-in_err-write_texts g c =
    let is = c.from_residual-in_err-write_texts.ensures.0 in
    let each = flat_map-map (λ word. 32 ∷ word) (λ word. word.now) c.args.words.now in
    let one = rw append-nil at c.in_err-write_texts.ensures in
    let part = part-stops (λ word. 32 ∷ word.now) c.args.words.now c.loop-word.word-index c.loop-word.invariant is
    (record { ref_ptr = (0, 0); now = [] }) (omega arith) one in
    Wrote-front _ is (Wrote-then c.in_ok-write_text.ensures (rw (sym each) at part))

pub returns : goal.returns
returns g c =
    let each = flat_map-map (λ word. 32 ∷ word) (λ word. word.now) c.args.words.now in
    let all = parts-wrote (λ word. 32 ∷ word.now) c.args.words.now c.loop-word.word-index c.loop-word.invariant
    (omega arith) in
    Wrote-then (Wrote-then c.in_ok-write_text.ensures (rw (sym each) at all))
    c.write_text-2.ensures
