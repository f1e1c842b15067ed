use Rattle.cj_stream.proofs.Common.{ap, arith, length}
use Rattle.cj_stream.proofs.BoxTextLemmas.{came-first, came-some, came-none}
use Rattle.cj_stream.proofs.query.bounds.four_fields.Goals as goal

pub returns-in_err-min_y : goal.returns-in_err-min_y
returns-in_err-min_y c =
    let split = c.split-fields.ensures in
    let came0 = came-first c.args.text.now c.split-fields.result split.text split.has_more split.pattern in
    let came1 = came-some came0 c.next.new.self c.in_ok-min_x.min_x c.in_ok-min_x.ensures.steps in
    let all = came-none came1 c.next-2.new.self c.in_err-min_y.ensures.steps in
    rw c.from_residual-in_err-min_y.ensures (λ e. omega (arith, e, ap length all))

pub returns-in_err-max_x : goal.returns-in_err-max_x
returns-in_err-max_x c =
    let split = c.split-fields.ensures in
    let came0 = came-first c.args.text.now c.split-fields.result split.text split.has_more split.pattern in
    let came1 = came-some came0 c.next.new.self c.in_ok-min_x.min_x c.in_ok-min_x.ensures.steps in
    let came2 = came-some came1 c.next-2.new.self c.in_ok-min_y.min_y c.in_ok-min_y.ensures.steps in
    let all = came-none came2 c.next-3.new.self c.in_err-max_x.ensures.steps in
    rw c.from_residual-in_err-max_x.ensures (λ e. omega (arith, e, ap length all))

pub returns-in_err-max_y : goal.returns-in_err-max_y
returns-in_err-max_y c =
    let split = c.split-fields.ensures in
    let came0 = came-first c.args.text.now c.split-fields.result split.text split.has_more split.pattern in
    let came1 = came-some came0 c.next.new.self c.in_ok-min_x.min_x c.in_ok-min_x.ensures.steps in
    let came2 = came-some came1 c.next-2.new.self c.in_ok-min_y.min_y c.in_ok-min_y.ensures.steps in
    let came3 = came-some came2 c.next-3.new.self c.in_ok-max_x.max_x c.in_ok-max_x.ensures.steps in
    let all = came-none came3 c.next-4.new.self c.in_err-max_y.ensures.steps in
    rw c.from_residual-in_err-max_y.ensures (λ e. omega (arith, e, ap length all))

pub returns-in-Some : goal.returns-in-Some
returns-in-Some c =
    let split = c.split-fields.ensures in
    let came0 = came-first c.args.text.now c.split-fields.result split.text split.has_more split.pattern in
    let came1 = came-some came0 c.next.new.self c.in_ok-min_x.min_x c.in_ok-min_x.ensures.steps in
    let came2 = came-some came1 c.next-2.new.self c.in_ok-min_y.min_y c.in_ok-min_y.ensures.steps in
    let came3 = came-some came2 c.next-3.new.self c.in_ok-max_x.max_x c.in_ok-max_x.ensures.steps in
    let came4 = came-some came3 c.next-4.new.self c.in_ok-max_y.max_y c.in_ok-max_y.ensures.steps in
    let came5 = came-some came4 c.next-5.new.self c.in-Some.field-0 c.in-Some.ensures.steps in
    λ e. omega (arith, e, ap length came5.whole)

pub returns-in-None : goal.returns-in-None
returns-in-None c =
    let split = c.split-fields.ensures in
    let came0 = came-first c.args.text.now c.split-fields.result split.text split.has_more split.pattern in
    let came1 = came-some came0 c.next.new.self c.in_ok-min_x.min_x c.in_ok-min_x.ensures.steps in
    let came2 = came-some came1 c.next-2.new.self c.in_ok-min_y.min_y c.in_ok-min_y.ensures.steps in
    let came3 = came-some came2 c.next-3.new.self c.in_ok-max_x.max_x c.in_ok-max_x.ensures.steps in
    let came4 = came-some came3 c.next-4.new.self c.in_ok-max_y.max_y c.in_ok-max_y.ensures.steps in
    came-none came4 c.next-5.new.self c.in-None.ensures.steps
