use Rattle.std.proofs.Common.{◌≡◌, ◌≤◌, length}
use Rattle.cj_feature.proofs.feature.search.questions.gathering.note_items.Given as goal

abbrev pub invariant-loop-item : goal.invariant-loop-item
invariant-loop-item g l = record {
  few : l.next ≤ length l.questions;
  length : length l.questions ≡ length l.initial.questions;
}
