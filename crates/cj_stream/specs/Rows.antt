-- Worked rows, which compute.
use Rattle.std.specs.Prelude.{◌≡◌, ℕ, List, [], ◌∷◌, ◌++◌, take, replicate, codes}
use Rattle.cj_spans.specs.declared.reason.Reason.TheVariants.{NoHeader, LineTooLong, NotUtf8, Syntax, TooDeep}
use Rattle.cj_spans.specs.declared.reason.Reason.TheVariants.{MissingMember, IdNotFound}
use Rattle.cj_stream.specs.declared.ending.End.{End}
use Rattle.cj_stream.specs.declared.ending.End.TheVariants.{Complete, Refused}
use Rattle.cj_stream.specs.Usual.{everything, usual_options}
use Rattle.cj_stream.specs.Meaning.Rules.{Rules}
use Rattle.cj_stream.specs.Verdict.{output, ending}

-- a small header, a small feature, and one whose id no city object has
abbrev pub small_header : List ℕ
small_header = codes "{\"type\":\"CityJSON\",\"version\":\"2.0\",\"transform\":{\"scale\":[1,1,1],\"translate\":[0,0,0]},\"CityObjects\":{},\"vertices\":[]}"

abbrev pub small_feature : List ℕ
small_feature = codes "{\"type\":\"CityJSONFeature\",\"id\":\"b\",\"CityObjects\":{\"b\":{\"type\":\"Building\"}},\"vertices\":[]}"

abbrev pub lost_feature : List ℕ
lost_feature = codes "{\"type\":\"CityJSONFeature\",\"id\":\"b\",\"CityObjects\":{\"c\":{\"type\":\"Building\"}},\"vertices\":[]}"

-- the small feature with a name of three bytes
abbrev pub euro_feature : List ℕ
euro_feature = codes "{\"type\":\"CityJSONFeature\",\"id\":\"" ++ 226 ∷ 130 ∷ 172 ∷ codes "\",\"CityObjects\":{\""
    ++ 226 ∷ 130 ∷ 172 ∷ codes "\":{\"type\":\"Building\"}},\"vertices\":[]}"

-- limits that no row but one with many brackets comes to, and limits that the small header just meets
abbrev pub wide_rules : Rules
wide_rules = record { limits = record { line = 8388608; depth = 64 }; criteria = everything; options = usual_options }

abbrev pub tight_rules : Rules
tight_rules = record { limits = record { line = 116; depth = 64 }; criteria = everything; options = usual_options }

-- a stream ends so, and this is written of it
abbrev pub Gives : Rules → List ℕ → End → List ℕ → Type 0
Gives rules text e written = (ending rules text ≡ e) × (output rules text ≡ written)

-- nothing at all, and a blank first line
abbrev pub EmptyRow : Type 0
EmptyRow = Gives wide_rules [] (Refused 1 0 NoHeader) [] × Gives wide_rules (10 ∷ []) (Refused 1 0 Syntax) []

-- a header and a feature
abbrev pub WholeRow : Type 0
WholeRow = let text = small_header ++ 10 ∷ (small_feature ++ 10 ∷ []) in Gives wide_rules text Complete text

-- a blank line, and a last line without LF
abbrev pub BlankRow : Type 0
BlankRow = Gives wide_rules (small_header ++ 10 ∷ 13 ∷ 10 ∷ small_feature) Complete (small_header ++ 10 ∷ small_feature)

-- a feature as the first line, and a header as the second
abbrev pub OrderRow : Type 0
OrderRow =
    Gives wide_rules (small_feature ++ 10 ∷ small_header) (Refused 1 0 MissingMember) []
    × Gives wide_rules (small_header ++ 10 ∷ small_header) (Refused 2 0 MissingMember) (small_header ++ 10 ∷ [])

-- good features before and after a bad one: only those before it are written
abbrev pub BadRow : Type 0
BadRow =
    let good = small_header ++ 10 ∷ (small_feature ++ 10 ∷ []) in
    Gives wide_rules (good ++ (lost_feature ++ 10 ∷ (small_feature ++ 10 ∷ []))) (Refused 3 31 IdNotFound) good

-- a line that is one byte too long, with and without LF: the first, and one after a header that just meets the limit
abbrev pub LongRow : Type 0
LongRow =
    Gives tight_rules (small_header ++ 32 ∷ []) (Refused 1 116 LineTooLong) []
    × Gives tight_rules (small_header ++ 32 ∷ 10 ∷ []) (Refused 1 116 LineTooLong) []
    × Gives tight_rules (small_header ++ 10 ∷ (small_header ++ 32 ∷ [])) (Refused 2 116 LineTooLong)
    (small_header ++ 10 ∷ [])
    × Gives tight_rules (small_header ++ 10 ∷ (small_header ++ 32 ∷ 10 ∷ [])) (Refused 2 116 LineTooLong)
    (small_header ++ 10 ∷ [])

-- a character of three bytes, and what is refused without its last one
abbrev pub TextRow : Type 0
TextRow =
    let cut = codes "{\"a\":\"" ++ 226 ∷ 130 ∷ codes "\"}" in
    Gives wide_rules (small_header ++ 10 ∷ euro_feature) Complete (small_header ++ 10 ∷ euro_feature)
    × Gives wide_rules cut (Refused 1 6 NotUtf8) []
    × Gives wide_rules (small_header ++ 10 ∷ cut) (Refused 2 6 NotUtf8) (small_header ++ 10 ∷ [])

-- a comma before a brace, and a text that is cut short
abbrev pub SyntaxRow : Type 0
SyntaxRow =
    let comma = codes "{\"type\":\"CityJSONFeature\",}" in
    Gives wide_rules comma (Refused 1 26 Syntax) []
    × Gives wide_rules (take 80 small_feature) (Refused 1 80 Syntax) []
    × Gives wide_rules (small_header ++ 10 ∷ comma) (Refused 2 26 Syntax) (small_header ++ 10 ∷ [])
    × Gives wide_rules (small_header ++ 10 ∷ take 80 small_feature) (Refused 2 80 Syntax) (small_header ++ 10 ∷ [])

-- more brackets than the depth limit allows, and as many but none closed
abbrev pub DeepRow : Type 0
DeepRow =
    Gives wide_rules (replicate 65 91) (Refused 1 64 TooDeep) []
    × Gives wide_rules (replicate 64 91) (Refused 1 64 Syntax) []
    × Gives wide_rules (small_header ++ 10 ∷ replicate 65 91) (Refused 2 64 TooDeep) (small_header ++ 10 ∷ [])
    × Gives wide_rules (small_header ++ 10 ∷ replicate 64 91) (Refused 2 64 Syntax) (small_header ++ 10 ∷ [])
