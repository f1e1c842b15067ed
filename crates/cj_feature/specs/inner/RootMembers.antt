-- The members of a feature that its rules look up, as numbers of the line, and whether all names begin apart.
use Rattle.std.specs.Prelude.{◌≡◌, true, option_map, codes}
use Rattle.std.specs.Str.{chars}
use Rattle.cj_spans.specs.declared.node.Node.{Node}
use Rattle.cj_spans.specs.Initials.{begin_apart}
use Rattle.cj_spans.specs.Meaning.Parts.{member_of, members_of}
use Rattle.cj_spans.specs.View.{tree, tree_in, source_of}
use Rattle.cj_feature.specs.declared.feature.rules.Members.{Members}

-- each number is that of the member, and is there where the member is
pub record AreMembers (n : Node) (m : Members) : Type 0 where
  pub kind : option_map (tree_in (source_of n)) m.kind ≡ member_of (chars (codes "type")) (tree n)
  pub id : option_map (tree_in (source_of n)) m.id ≡ member_of (chars (codes "id")) (tree n)
  pub objects : option_map (tree_in (source_of n)) m.objects ≡ member_of (chars (codes "CityObjects")) (tree n)
  pub vertices : option_map (tree_in (source_of n)) m.vertices ≡ member_of (chars (codes "vertices")) (tree n)
  pub apart : m.apart ≡ true → begin_apart (members_of (tree n)) ≡ true
