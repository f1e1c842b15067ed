-- Small streams with a blank line that is not empty, and with a header alone.
use Rattle.std.specs.Prelude.{[], ◌∷◌, ◌++◌}
use Rattle.cj_spans.specs.declared.reason.Reason.TheVariants.{Syntax}
use Rattle.cj_stream.specs.declared.ending.End.TheVariants.{Complete, Refused}
use Rattle.cj_stream.specs.Rows.{small_header, small_feature, wide_rules, Gives}

-- a tab on a line of its own is blank, but not on the first line, and a form feed is not
abbrev pub TabRow : Type 0
TabRow =
    Gives wide_rules (small_header ++ 10 ∷ 9 ∷ 10 ∷ small_feature) Complete (small_header ++ 10 ∷ small_feature)
    × Gives wide_rules (9 ∷ []) (Refused 1 1 Syntax) []
    × Gives wide_rules (small_header ++ 10 ∷ 12 ∷ []) (Refused 2 0 Syntax) (small_header ++ 10 ∷ [])

-- a header alone is written as it came, with and without LF
abbrev pub HeaderRow : Type 0
HeaderRow =
    Gives wide_rules small_header Complete small_header
    × Gives wide_rules (small_header ++ 10 ∷ []) Complete (small_header ++ 10 ∷ [])
