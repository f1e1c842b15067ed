-- Lines that are left out of a stream.
use Rattle.std.specs.Prelude.{◌≡◌, List, [], ◌∷◌, All, Bool, false, if◌then◌else◌, map}
use Rattle.cj_stream.specs.Meaning.Lines.{Line}
use Rattle.cj_stream.specs.Meaning.Rules.{Rules}
use Rattle.cj_stream.specs.Verdict.{is_kept, verdict}

-- some lines, each with whether it stays: all of them, and those that stay
abbrev pub all_lines : List (Line × Bool) → List Line
all_lines xs = map (λ x. x.0) xs

abbrev pub staying : List (Line × Bool) → List Line
staying [] = []
staying (x ∷ xs) = if x.1 then x.0 ∷ staying xs else staying xs

-- no line goes that is kept after this header
abbrev pub LeavesKept : Rules → Line → List (Line × Bool) → Type 0
LeavesKept rules header xs = All
    (λ (x : Line × Bool). x.1 ≡ false → is_kept (verdict rules (header ∷ []) x.0.content) ≡ false) xs
