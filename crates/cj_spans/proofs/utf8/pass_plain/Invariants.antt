use Rattle.cj_spans.proofs.Common.{◌≤◌, length, take, IsUtf8}
use Rattle.cj_spans.proofs.utf8.pass_plain.Given as goal

abbrev pub invariant-loop : goal.invariant-loop
invariant-loop l = record { within : l.place ≤ length l.line; utf8 : IsUtf8 (take l.place l.line) }
