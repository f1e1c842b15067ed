-- Worked rows of streams in which reading goes on after invalid lines.
use Rattle.std.specs.Prelude.{◌≡◌, ℕ, List, [], ◌∷◌, ◌++◌, true, codes}
use Rattle.cj_spans.specs.declared.reason.Reason.TheVariants.{LineTooLong, Syntax, MissingMember}
use Rattle.cj_stream.specs.declared.ending.End.{End}
use Rattle.cj_stream.specs.declared.ending.End.TheVariants.{Complete, Refused}
use Rattle.cj_stream.specs.declared.report_sink.Report.{Report}
use Rattle.cj_stream.specs.Rows.{small_header, small_feature, wide_rules, tight_rules, Gives}
use Rattle.cj_stream.specs.Meaning.Rules.{Rules}
use Rattle.cj_stream.specs.Verdict.{reported}

-- the same rules, but told to go on
abbrev pub going : Rules → Rules
going rules = record rules { options = record rules.options { keep_going = true } }

-- a stream ends so, this is written of it, and this reported
abbrev pub GivesAll : Rules → List ℕ → End → List ℕ → List Report → Type 0
GivesAll rules text e written reports = Gives (going rules) text e written × (reported (going rules) text ≡ reports)

-- a bad line between the header and a good feature is reported, and not written
abbrev pub BetweenRow : Type 0
BetweenRow =
    let comma = codes "{\"type\":\"CityJSONFeature\",}" in
    GivesAll wide_rules (small_header ++ 10 ∷ (comma ++ 10 ∷ small_feature)) Complete
    (small_header ++ 10 ∷ small_feature) (record { line = 2; place = 26; reason = Syntax } ∷ [])

-- a first line that is bad is the end, and not reported
abbrev pub FirstRow : Type 0
FirstRow = GivesAll wide_rules (small_feature ++ 10 ∷ small_header) (Refused 1 0 MissingMember) [] []

-- a last line that is one byte too long is reported
abbrev pub LastRow : Type 0
LastRow = GivesAll tight_rules (small_header ++ 10 ∷ (small_header ++ 32 ∷ [])) Complete (small_header ++ 10 ∷ [])
    (record { line = 2; place = 116; reason = LineTooLong } ∷ [])
