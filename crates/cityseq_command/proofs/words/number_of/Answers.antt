use Rattle.cityseq_command.proofs.Common.{Option, ReadsOne, Result, Text, unwrap_or, ℕ, ◌≡◌, arith}
use Rattle.std.specs.Str.Parse.{ParsesUnsigned}
use Rattle.cityseq_command.specs.Words.{IsNumeral64, number_in}
use Rattle.cityseq_command.proofs.words.number_of.Goals as goal

-- where a text spells a number, that number is read
read : {E : Type 0} (gives : Text → Result ℕ E → Type 0) (r : Option ℕ) (text : Text) (usual : ℕ) → IsNumeral64 text
    → ((x : Result ℕ E) → gives text x → ParsesUnsigned 64 10 text x) → ReadsOne gives text r
    → unwrap_or r usual ≡ number_in text
read gives r text usual is parses reads = grind arith

pub returns : goal.returns
returns c = grind (arith, read)
