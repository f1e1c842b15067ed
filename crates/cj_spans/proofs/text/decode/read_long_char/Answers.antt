use Rattle.cj_spans.proofs.Common.{arith, refl}
use Rattle.cj_spans.proofs.Texts.{lead_two, lead_three, lead_four}
use Rattle.cj_spans.proofs.text.decode.read_long_char.Goals as goal

pub returns-then-lead-lt224-clause-char : goal.returns-then-lead-lt224-clause-char
returns-then-lead-lt224-clause-char c =
    lead_two c.args.bytes.now c.args.place c.add_byte.result (omega arith) (omega arith)
    (omega arith) c.saturating_sub-code.ensures (c.add_byte.ensures.more 0)

pub returns-then-lead-lt240-clause-char : goal.returns-then-lead-lt240-clause-char
returns-then-lead-lt240-clause-char c =
    lead_three c.args.bytes.now c.args.place _ c.add_two.result (omega arith) (omega arith) (omega arith) refl
    (c.add_two.ensures.more 0)

pub returns-else-lead-lt240-clause-char : goal.returns-else-lead-lt240-clause-char
returns-else-lead-lt240-clause-char c =
    lead_four c.args.bytes.now c.args.place _ c.add_three.result (omega arith) (omega arith) refl
    (c.add_three.ensures.more 0)
