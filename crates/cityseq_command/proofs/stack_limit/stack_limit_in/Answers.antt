use Rattle.std.proofs.Common.{arith}
use Rattle.std.proofs.Common.{List, None, Result, Some, refl, ℕ, ◌∙◌}
use Rattle.std.specs.Result.{result_ok}
use Rattle.std.specs.Str.Parse.{ParsesUnsigned}
use Rattle.cityseq_command.specs.StackLimit.{IsSpelled}
use Rattle.cityseq_command.proofs.stack_limit.stack_limit_in.Goals as goal

-- a word that was parsed spells that number, and another one spells none
spelled : {E : Type 0} (word : List ℕ) (r : Result ℕ E) → ParsesUnsigned 64 10 word r → IsSpelled word (result_ok r)
spelled word r parses = grind arith

pub returns-in_err-columns : goal.returns-in_err-columns
returns-in_err-columns c = (None, (None, c.in_err-columns.ensures.cases, refl), c.from_residual.ensures)

pub returns-in_err-next : goal.returns-in_err-next
returns-in_err-next c = let (i, j, finds, front, back, on, before, behind) = c.in_ok-columns.ensures.cases in (
  Some _,
  (Some (i, j), finds, refl),
  (
    None,
    (c.split_whitespace.result, c.next.new.self, c.split_whitespace.ensures.rest ∙ back, c.in_err-next.ensures.steps),
    c.from_residual-in_err-next.ensures,
  ),
)

pub returns : goal.returns
returns c = let (i, j, finds, front, back, on, before, behind) = c.in_ok-columns.ensures.cases in (
  Some _,
  (Some (i, j), finds, refl),
  (
    Some c.in_ok-next.field-0,
    (c.split_whitespace.result, c.next.new.self, c.split_whitespace.ensures.rest ∙ back, c.in_ok-next.ensures.steps),
    rw c.ok.ensures.value (spelled c.in_ok-next.field-0.now c.parse.result c.parse.ensures.value.0),
  ),
)
