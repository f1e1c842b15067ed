use Rattle.cj_stream.proofs.Common.{Forgets, Invalid, Refused, Refuses, ScansLine, answer_of, ap, arith, begun_of, false, inl, is_lenient, line_end, scanning, sym, begun_verdict, true, ◌+◌, ◌∙◌, ◌≡◌}
use Rattle.cj_stream.proofs.FinishLemmas.{ok-then}
use Rattle.cj_stream.proofs.ReadingLemmas.{begun_of-later}
use Rattle.cj_stream.proofs.ScanningLemmas.{ScansNext-held, ScansNext-dropped}
use Rattle.cj_stream.proofs.line_splitter.LineSplitter.handle_line.Goals as goal

pub returns-then-self-clause-scanned : goal.returns-then-self-clause-scanned
returns-then-self-clause-scanned g c =
    let f = c.args.self.now.reading in
    let dropped : c.args.self.now.reading.dropped ≡ true = ap (λ x. x.reading.dropped) (sym c.self.view_is)
    ∙ c.if-self.true in
    ok-then (Forgets c.args.self.now.scanning c.refuse.new.self.scanning) _ c.refuse.result
    (ScansNext-dropped f c.args.self.now.scanning c.refuse.new.self.scanning c.requires.later dropped)
    c.refuse.ensures.forgets

pub returns-in-Ok-Kept-clause-scanned : goal.returns-in-Ok-Kept-clause-scanned
returns-in-Ok-Kept-clause-scanned g c =
    let f = c.args.self.now.reading in
    let held : c.args.self.now.reading.dropped ≡ false = ap (λ x. x.reading.dropped) (sym c.self.view_is)
    ∙ c.if-self.false in
    let line : ScansLine f.rules.limits (begun_of f) c.args.self.now.scanning (scanning c.judge_and_put.new.self) =
    rw (begun_of-later f c.requires.later, ← c.self.view_is, ← c.as_slice-content.ensures.value)
    c.judge_and_put.ensures.scans in
    ScansNext-held f c.args.self.now.scanning (scanning c.judge_and_put.new.self) c.end_line.new.self.scanning
    c.requires.later held
    line c.end_line.ensures.forgets

pub returns-in-Ok-LeftOut-clause-scanned : goal.returns-in-Ok-LeftOut-clause-scanned
returns-in-Ok-LeftOut-clause-scanned g c =
    let f = c.args.self.now.reading in
    let held : c.args.self.now.reading.dropped ≡ false = ap (λ x. x.reading.dropped) (sym c.self.view_is)
    ∙ c.if-self.false in
    let line : ScansLine f.rules.limits (begun_of f) c.args.self.now.scanning (scanning c.judge_and_put.new.self) =
    rw (begun_of-later f c.requires.later, ← c.self.view_is, ← c.as_slice-content.ensures.value)
    c.judge_and_put.ensures.scans in
    ScansNext-held f c.args.self.now.scanning (scanning c.judge_and_put.new.self)
    c.end_line-in-Ok-LeftOut.new.self.scanning
    c.requires.later held line c.end_line-in-Ok-LeftOut.ensures.forgets

pub returns-in-Ok-Refused-clause-scanned : goal.returns-in-Ok-Refused-clause-scanned
returns-in-Ok-Refused-clause-scanned g c =
    let f = c.args.self.now.reading in
    let new = c.refuse-in-Ok-Refused.new.self.scanning in
    let held : c.args.self.now.reading.dropped ≡ false = ap (λ x. x.reading.dropped) (sym c.self.view_is)
    ∙ c.if-self.false in
    let line : ScansLine f.rules.limits (begun_of f) c.args.self.now.scanning (scanning c.judge_and_put.new.self) =
    rw (begun_of-later f c.requires.later, ← c.self.view_is, ← c.as_slice-content.ensures.value)
    c.judge_and_put.ensures.scans in
    ok-then (Forgets (scanning c.judge_and_put.new.self) new) _ c.refuse-in-Ok-Refused.result
    (ScansNext-held f c.args.self.now.scanning (scanning c.judge_and_put.new.self) new c.requires.later held line)
    c.refuse-in-Ok-Refused.ensures.forgets

pub returns-in-Ok-Refused-clause-handles : goal.returns-in-Ok-Refused-clause-handles
returns-in-Ok-Refused-clause-handles g c =
    let f = c.args.self.now.reading in
    let place = c.in-Ok-Refused.finding.place in
    let reason = c.in-Ok-Refused.finding.reason in
    let held : c.args.self.now.reading.dropped ≡ false = ap (λ x. x.reading.dropped) (sym c.self.view_is)
    ∙ c.if-self.false in
    let hands = rw c.in-Ok-Refused.field-0-is at (c.in-Ok-Refused.ensures.hands (c.self.inside.buffer.lines + 1)
    (omega (arith, c.requires.later, ap (λ x. x.reading.lines) c.self.view_is))) in
    let said : begun_verdict f ≡ Invalid c.in-Ok-Refused.finding.place c.in-Ok-Refused.finding.reason =
    rw (
      held,
      begun_of-later f c.requires.later,
      ← c.self.view_is,
      ← c.as_slice-first.ensures.value,
      ← c.as_slice-content.ensures.value,
    ) hands.0 in
    let refuses : Refuses (is_lenient f) (Refused (f.lines + 1) place reason) f
    (answer_of line_end c.refuse-in-Ok-Refused.result) c.refuse-in-Ok-Refused.new.self.reading =
    rw (← c.self.view_is) (rw c.judge_and_put.ensures.rest at c.refuse-in-Ok-Refused.ensures.refuses) in
    inl (rw said (refuses, hands.1))
