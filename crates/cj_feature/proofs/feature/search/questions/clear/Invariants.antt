use Rattle.std.proofs.Common.{◌≡◌, ℕ, ◌<◌, false, slice_index_or}
use Rattle.cj_feature.proofs.feature.search.questions.clear.Given as goal

abbrev pub invariant-loop-one : goal.invariant-loop-one
invariant-loop-one l = (i : ℕ) → i < l.one-index → slice_index_or l.flags i false ≡ false
