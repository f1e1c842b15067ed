-- What a city object lists, its children or its parents, and what is found on those. Private clauses alone cite it.
use Rattle.std.specs.Prelude.{ℕ, List, [], Bool, false, cond, codes}
use Rattle.std.specs.List.{flat_map}
use Rattle.std.specs.Str.{chars}
use Rattle.cj_spans.specs.declared.finding.Finding.{Finding}
use Rattle.cj_spans.specs.Meaning.Tree.{Tree}
use Rattle.cj_feature.specs.declared.feature.search.link.Link.{Link}
use Rattle.cj_feature.specs.declared.feature.search.link.Link.TheVariants.{Child, Parent}
use Rattle.cj_feature.specs.Meaning.Links.{listed_in, is_group, child, parent}

-- the member that lists them
abbrev pub list_of : Link → List ℕ
list_of Child = chars (codes "children")
list_of Parent = chars (codes "parents")

-- the member in which each of them lists the city object
abbrev pub back_of : Link → List ℕ
back_of Child = chars (codes "parents")
back_of Parent = chars (codes "children")

-- those that this city object lists are not checked
abbrev pub exempts : Link → Tree → Bool
exempts Child o = is_group o
exempts Parent o = false

-- the findings on one that is listed
abbrev pub linked : Link → List (Tree × Tree) → Tree → Tree → List Finding
linked Child = child
linked Parent = parent

-- the findings on all that a city object lists
abbrev pub all_linked : Link → List (Tree × Tree) → Tree × Tree → List Finding
all_linked k objects m = cond (exempts k m.1) [] (flat_map (linked k objects m.0) (listed_in (list_of k) m.1))
