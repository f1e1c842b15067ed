use Rattle.cj_stream.proofs.Common.{Appends, List, None, flush_answer, length, output_failures, output_writer, ℕ, ◌++◌, ◌≡◌}
use Rattle.cj_stream.proofs.output.Output.write_whole.Given as goal

abbrev pub invariant-loop-rest : goal.invariant-loop-rest
invariant-loop-rest g l =
    ((done : List ℕ) × (l.bytes ≡ done ++ l.rest)
    × Appends (g.W.Write.contents (output_writer l.initial.self)) (g.W.Write.contents (output_writer l.self)) done)
    × (output_failures l.self ≡ output_failures l.initial.self)
    × (flush_answer l.self ≡ None)

abbrev pub decreases-loop-rest : goal.decreases-loop-rest
decreases-loop-rest g l = length l.rest
