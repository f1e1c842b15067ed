use Rattle.cityseq_command.proofs.Common.{arith, flat_map-map, power_text, sym, ◌∷◌}
use Rattle.cityseq_command.proofs.WroteLemmas.{Wrote-nothing, Wrote-then, Wrote-front, Wrote-stops, part-wrote, part-stops, parts-wrote}
use Rattle.cityseq_command.proofs.summary.write_numbers.Goals as goal

pub loop-number-init : goal.loop-number-init
loop-number-init g c = Wrote-nothing tt _

pub loop-number-preserved : goal.loop-number-preserved
loop-number-preserved g c =
    part-wrote (λ number. 32 ∷ power_text number) c.in-Some.numbers c.loop-number.number-index c.loop-number.invariant
    c.number-item.result (omega arith) c.in_ok-write_power.ensures

pub returns-in_err-write_text : goal.returns-in_err-write_text
returns-in_err-write_text g c =
    rw c.in-Some.is
    (Wrote-front _ c.from_residual.ensures.0 (Wrote-stops _ c.from_residual.ensures.0 c.in_err-write_text.ensures))

pub returns-in_err-write_power : goal.returns-in_err-write_power
returns-in_err-write_power g c =
    let is = c.from_residual-in_err-write_power.ensures.0 in
    let each = flat_map-map (λ word. 32 ∷ word) power_text c.in-Some.numbers in
    let part = part-stops (λ number. 32 ∷ power_text number) c.in-Some.numbers c.loop-number.number-index
    c.loop-number.invariant is c.number-item.result (omega arith) c.in_err-write_power.ensures in
    rw c.in-Some.is (Wrote-front _ is (Wrote-then c.in_ok-write_text.ensures (rw (sym each) at part)))

pub returns : goal.returns
returns g c =
    let each = flat_map-map (λ word. 32 ∷ word) power_text c.in-Some.numbers in
    let all = parts-wrote (λ number. 32 ∷ power_text number) c.in-Some.numbers c.loop-number.number-index
    c.loop-number.invariant (omega arith) in
    rw c.in-Some.is
    (Wrote-then (Wrote-then c.in_ok-write_text.ensures (rw (sym each) at all))
    c.write_text-2.ensures)
