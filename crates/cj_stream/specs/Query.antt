-- What contracts see of a query.
use Rattle.std.specs.Prelude.{ℕ, List, Option, map, option_map, vec_items, string_bytes, Vec, String}
use Rattle.cj_budget.specs.Meaning.Limits.{LimitPair}
use Rattle.cj_stream.specs.declared.query.Query.{Query}
use Rattle.cj_stream.specs.declared.query.types.Types.{Types}
use Rattle.cj_stream.specs.declared.query.bounds.Bounds.{Bounds}
use Rattle.cj_stream.specs.Meaning.Criteria.{Criteria, ChosenTypes, Box}
use Rattle.cj_stream.specs.Meaning.Rules.{OptionSet, Rules}

-- the box of these bounds
abbrev pub box_of : Bounds → Box
box_of b = record { min_x = b.min_x; min_y = b.min_y; max_x = b.max_x; max_y = b.max_y }

-- the texts of a part
abbrev pub texts_of : {A B : Type 0} → Option (Vec (String A) B) → Option (List (List ℕ))
texts_of part = option_map (λ texts. map string_bytes (vec_items texts)) part

-- the types of a part
abbrev pub types_of : Types → ChosenTypes
types_of types = record { known = types.known; extensions = map string_bytes (vec_items types.extensions) }

-- what a query asks
unfoldable pub criteria : Query → Criteria
criteria q = record {
  ids = q.ids;
  types = option_map types_of q.types;
  lods = texts_of q.lods;
  box = option_map box_of q.bounds;
}

-- how often a growth of a query failed
abbrev pub failed_growths_of : Query → ℕ
failed_growths_of q = q.failed_growths

-- what lines are judged by under limits, for a query, and by what is told beside these
abbrev pub rules_for : LimitPair → Query → OptionSet → Rules
rules_for limits q options = record { limits = limits; criteria = criteria q; options = options }
