-- Worked rows of streams of which each city object has to be reached, of which what is asked for is left out, or whose
-- types of extensions are known.
use Rattle.std.specs.Prelude.{ℕ, List, [], ◌∷◌, ◌++◌, Bool, true, false}
use Rattle.cj_spans.specs.declared.reason.Reason.TheVariants.{NotReached, UnknownObjectType}
use Rattle.cj_feature.specs.Examples.{chain, part_apart, main_part, extension}
use Rattle.cj_stream.specs.declared.ending.End.TheVariants.{Complete, Refused}
use Rattle.cj_stream.specs.Usual.{everything}
use Rattle.cj_stream.specs.Rows.{small_header, small_feature, Gives}
use Rattle.cj_stream.specs.Meaning.Rules.{Rules}

-- the usual limits, where all is asked for, and these options
abbrev pub choosing : Bool → Bool → Bool → Rules
choosing tree exclude extensions = record {
  limits = record { line = 8388608; depth = 64 };
  criteria = everything;
  options = record { keep_going = false; all_reached = tree; exclude = exclude; extensions = extensions };
}

-- the header, and these lines
abbrev pub behind_header : List ℕ → List ℕ
behind_header lines = small_header ++ 10 ∷ lines

-- a part before its parent, of which neither is reached, and the parent of a main city object of the second level that
-- does not list it: the line is refused where each city object has to be reached, also where all features are left out
abbrev pub ApartRow : Type 0
ApartRow =
    Gives (choosing false false false) (behind_header part_apart.line) Complete (behind_header part_apart.line)
    × Gives (choosing true false false) (behind_header part_apart.line) (Refused 2 78 NotReached) (behind_header [])
    × Gives (choosing true true false) (behind_header part_apart.line) (Refused 2 78 NotReached) (behind_header [])
    × Gives (choosing true false false) (behind_header main_part.line) (Refused 2 98 NotReached) (behind_header [])
    × Gives (choosing true true false) (behind_header main_part.line) (Refused 2 98 NotReached) (behind_header [])

-- a chain that ends in the main city object: all of it is reached, so the line is kept, or left out
abbrev pub ChainRow : Type 0
ChainRow =
    Gives (choosing true false false) (behind_header chain.line) Complete (behind_header chain.line)
    × Gives (choosing true true false) (behind_header chain.line) Complete (behind_header [])

-- of what is valid all is asked for, so nothing but the header is left
abbrev pub ExcludeRow : Type 0
ExcludeRow =
    Gives (choosing false true false) (behind_header small_feature) Complete (behind_header [])
    × Gives (choosing false true false) (behind_header part_apart.line) Complete (behind_header [])

-- a type of an extension is unknown, or it is known
abbrev pub ExtensionRow : Type 0
ExtensionRow =
    Gives (choosing false false false) (behind_header extension.line) (Refused 2 62 UnknownObjectType)
    (behind_header [])
    × Gives (choosing false false true) (behind_header extension.line) Complete (behind_header extension.line)
