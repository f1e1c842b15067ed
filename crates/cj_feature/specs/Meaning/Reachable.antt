-- The city objects that are reached from the main one, as a relation between ids.
use Rattle.std.specs.Prelude.{◌≡◌, ℕ, List, Some, codes}
use Rattle.std.specs.List.{Contains}
use Rattle.std.specs.Str.{chars}
use Rattle.cj_spans.specs.Meaning.Tree.{Tree}
use Rattle.cj_spans.specs.Meaning.Parts.{members_of, member_of, text_of}
use Rattle.cj_feature.specs.Meaning.Relations.{IsIn, Children}

-- the ids that are reached from one: the least set of ids of the feature that has that one and, with each id, those
-- that it lists as children. So an id is listed by all city objects of its name, and groups list as others do
pub data Reached (objects : List (Tree × Tree)) (main : List ℕ) : List ℕ → Type 0 where
  itself : IsIn objects main → Reached objects main main
  child : (a b : List ℕ) → Reached objects main a → Children objects a b → IsIn objects b → Reached objects main b

-- the name is reached from the id
pub record IsReached (objects : List (Tree × Tree)) (id name : Tree) : Type 0 where
  pub main : List ℕ
  pub from : text_of id ≡ Some main
  pub own : List ℕ
  pub named : text_of name ≡ Some own
  pub reached : Reached objects main own

-- A city object of the feature of this tree that is reached from the feature's id. A value that is no object counts as
-- one: its name is an id all the same, and no verdict hangs on it, as the finding of its kind comes first, at the same
-- place.
pub record IsReachedObject (feature object : Tree) : Type 0 where
  pub id : Tree
  pub has_id : member_of (chars (codes "id")) feature ≡ Some id
  pub objects : Tree
  pub has_objects : member_of (chars (codes "CityObjects")) feature ≡ Some objects
  pub name : Tree
  pub held : Contains (members_of objects) (name, object)
  pub reached : IsReached (members_of objects) id name
