-- Which city objects are reached (RULES, what is reached). They are those that have the id of the feature as their
-- name, and those that a reached one lists as its children. Reachable says the same as a relation, by the law
-- `reached_is_the_least_set`.
use Rattle.std.specs.Prelude.{ℕ, zero, suc, List, ◌++◌, Bool, not, filter, length, codes}
use Rattle.std.specs.List.{list_any}
use Rattle.std.specs.Str.{chars}
use Rattle.cj_spans.specs.Meaning.Tree.{Tree}
use Rattle.cj_feature.specs.Meaning.Links.{same_text, listed_in, has_item}

-- one of these city objects lists the other as a child
abbrev pub list_child : List (Tree × Tree) → Tree × Tree → Bool
list_child parents m = list_any (λ p. has_item (listed_in (chars (codes "children")) p.1) m.0) parents

-- n rounds: each takes those of the others that the last ones list
unfoldable pub reached_from : ℕ → List (Tree × Tree) → List (Tree × Tree) → List (Tree × Tree)
reached_from zero taken others = taken
reached_from (suc n) taken others =
    taken ++ reached_from n (filter (list_child taken) others) (filter (λ m. not (list_child taken m)) others)

-- the city objects that are reached from the id. Each round takes one at least, or it is the last
abbrev pub reached_of : List (Tree × Tree) → Tree → List (Tree × Tree)
reached_of objects id = reached_from (length objects) (filter (λ m. same_text m.0 id) objects)
    (filter (λ m. not (same_text m.0 id)) objects)

-- one of them has this name
unfoldable pub is_reached : List (Tree × Tree) → Tree → Tree → Bool
is_reached objects id name = list_any (λ m. same_text m.0 name) (reached_of objects id)
