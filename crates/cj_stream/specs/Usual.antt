-- What holds where nothing is asked for: all features are asked for, and no option is set.
use Rattle.std.specs.Prelude.{false, None}
use Rattle.cj_stream.specs.Meaning.Criteria.{Criteria}
use Rattle.cj_stream.specs.Meaning.Rules.{OptionSet}

-- no part of a query is set
abbrev pub everything : Criteria
everything = record { ids = None; types = None; lods = None; box = None }

-- the first invalid line is the end, what satisfies the query is kept, and types of extensions are unknown
abbrev pub usual_options : OptionSet
usual_options = record { keep_going = false; all_reached = false; exclude = false; extensions = false }
