-- What is answered of a stream by what is answered of its parts.
use Rattle.std.specs.Prelude.{◌≡◌, ℕ, ◌+◌, ◌-◌, List, Option, Some, None, option_map, nat_eq, if◌then◌else◌}
use Rattle.cj_stream.specs.declared.ending.End.{End}
use Rattle.cj_stream.specs.declared.ending.End.TheVariants.{Complete, Refused, WriteFault}
use Rattle.cj_stream.specs.declared.running.Outcome.{Outcome}
use Rattle.cj_stream.specs.Parts.{both_outcomes, capped_outcome}
use Rattle.cj_stream.specs.Run.{Account}
use Rattle.cj_stream.specs.Tallied.{capped}
use Rattle.cj_stream.specs.Meaning.Rules.{Rules}
use Rattle.cityseq_c.specs.Answer.{answer_of}
use Rattle.cityseq_c.specs.Judged.{IsJudged, run_over}
use Rattle.cityseq_c.specs.Words.{reason_with}
use Rattle.cityseq_c.specs.declared.answer.Answer.{Answer}

-- an answer reports how a text was judged by rules: its end, its counts, and what was held
pub record IsAnswerOf (rules : Rules) (text : List ℕ) (answer : Answer) : Type 0 where
  pub outcome : Outcome
  pub judged : IsJudged outcome.ended
  pub account : Account (run_over rules text outcome) (Unit {0})
  pub shown : answer ≡ answer_of outcome answer.written

-- the end that an answer has, if a text was judged
abbrev pub ended_by : Answer → Option End
ended_by a =
    if nat_eq a.status 0 then Some Complete
    else (if nat_eq a.status 1 then option_map (λ reason. Refused a.line a.place reason) (reason_with a.code)
    else (if nat_eq a.status 4 then Some WriteFault else None))

-- the outcome that it has, with an end
abbrev pub outcome_by : Answer → End → Outcome
outcome_by a ended = record {
  lines = a.lines;
  kept = a.kept;
  refused = a.refused;
  peaks = record { bytes = a.peak_bytes; tokens = a.peak_tokens; depth = a.peak_depth };
  ended = ended;
}

-- the answer for two parts where the first is complete and the next came to this end: what is answered of both runs
-- as one, and the length of the output, in which the header of so many bytes counts once
abbrev pub both_answers : Answer → Answer → End → ℕ → Answer
both_answers first next ended header_length =
    answer_of (capped_outcome (both_outcomes (outcome_by first Complete) (outcome_by next ended)))
    (capped (first.written + (next.written - header_length)))
