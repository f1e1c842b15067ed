use Rattle.std.proofs.Common.{◌≡◌, ap, arith, rules, ◌≢◌}
use Rattle.cityseq_c.proofs.AnswerLemmas.{IsOfSize, tallied-then, zeros-then}
use Rattle.cityseq_c.proofs.tally.Tally.then.Goals.{then-self-eq0, else-self-eq0}
use Rattle.cityseq_c.proofs.tally.Tally.then.Goals as goal

pub returns-clause-joined : goal.returns-clause-joined
returns-clause-joined c rules h a b cut done first second =
    tallied-then rules h a b c.args.self.now c.args.next.now c.of.result c.if-self-eq0.header.now c.sink.result
    c.sink-2.result c.then.result cut done own
    c.sink.ensures c.sink-2.ensures c.then.ensures c.of.ensures
    (λ x y both of_x of_y joins. c.parts_are_joined.ensures.tally rules h a b x y both cut done of_x of_y joins) first
    second
  where
    own : c.args.self.now.transformed ≢ 0 → c.if-self-eq0.header.now ≡ c.args.self.now
    own some = elim c.if-self-eq0.branch [
      | then-self-eq0 w ↦ absurd (some w.if-self-eq0.true)
      | else-self-eq0 w ↦ ap (λ h. h.now) w.header-is
    ]

pub returns-clause-zeros : goal.returns-clause-zeros
returns-clause-zeros c tallied shown none =
    let header : c.if-self-eq0.header.now ≡ c.args.next.now =
    elim c.if-self-eq0.branch [
      | then-self-eq0 w ↦ ap (λ h. h.now) w.header-is
      | else-self-eq0 w ↦ absurd (w.if-self-eq0.false (ap (λ z. z.transformed) none))
    ] in
    let size : IsOfSize c.sink-2.result =
    record {
      features = omega arith;
      types = search rules;
      lods = search rules;
      few_types = search rules;
      few_lods = search rules;
    } in
    let long : IsOfSize c.then.result =
    record {
      features = omega arith;
      types = search rules;
      lods = search rules;
      few_types = search rules;
      few_lods = search rules;
    } in
    rw header
    (zeros-then c.args.self.now c.args.next.now c.of.result tallied c.sink.result c.sink-2.result c.then.result none
    shown c.sink.ensures c.sink-2.ensures c.then.ensures c.of.ensures size long)
