use Rattle.std.proofs.Common.{rules, [], arith}
use Rattle.cityseq_command.proofs.WroteLemmas.{joined-map, Wrote-nothing, part-wrote, part-stops, parts-wrote}
use Rattle.cityseq_command.proofs.fault_lines.write_texts.Goals as goal

pub loop-text-init : goal.loop-text-init
loop-text-init g c = Wrote-nothing tt _

pub loop-text-preserved : goal.loop-text-preserved
loop-text-preserved g c =
    part-wrote (λ text. text.now) c.args.texts.now c.loop-text.text-index c.loop-text.invariant
    (record { ref_ptr = (0, 0); now = [] }) (omega arith) c.in_ok-write_text.ensures

pub returns-in_err-write_text : goal.returns-in_err-write_text
returns-in_err-write_text g c =
    let texts = c.args.texts.now in
    rw (joined-map (λ text. text.now) texts)
    (part-stops (λ text. text.now) texts c.loop-text.text-index c.loop-text.invariant c.from_residual.ensures.0
    (record { ref_ptr = (0, 0); now = [] }) (omega arith) c.in_err-write_text.ensures)

pub returns : goal.returns
returns g c =
    search (rules, joined-map, parts-wrote)
