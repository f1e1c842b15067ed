-- Links between city objects as relations between ids: who lists whom, and which links break a rule.
use Rattle.std.specs.Prelude.{◌≡◌, ℕ, List, Some, false, true, codes}
use Rattle.std.specs.List.{Contains}
use Rattle.std.specs.Str.{chars}
use Rattle.cj_spans.specs.declared.token.Kind.TheVariants.{Array}
use Rattle.cj_spans.specs.declared.reason.Reason.TheVariants.{ChildNotFound, LinkNotMutual, NoParent}
use Rattle.cj_spans.specs.declared.finding.Finding.{Finding}
use Rattle.cj_spans.specs.Meaning.Finding.{found_at}
use Rattle.cj_spans.specs.Meaning.Tree.{Tree, start_of}
use Rattle.cj_spans.specs.Meaning.Parts.{kind_of, items_of, member_of, text_of}
use Rattle.cj_feature.specs.Meaning.Links.{is_group, at_second_level}

-- an id is in the feature: it is the text of a name
pub record IsIn (objects : List (Tree × Tree)) (id : List ℕ) : Type 0 where
  pub object : Tree × Tree
  pub held : Contains objects object
  pub named : text_of object.0 ≡ Some id

-- an item of the array that a city object has as its member of the name
pub record IsListed (list : List ℕ) (object item : Tree) : Type 0 where
  pub array : Tree
  pub member : member_of list object ≡ Some array
  pub kind : kind_of array ≡ Array
  pub held : Contains (items_of array) item

-- the id `from` lists the id `to` in members of the name: some city object with the one has an item of the other
pub record Lists (list : List ℕ) (objects : List (Tree × Tree)) (from to : List ℕ) : Type 0 where
  pub object : Tree × Tree
  pub held : Contains objects object
  pub named : text_of object.0 ≡ Some from
  pub item : Tree
  pub listed : IsListed list object.1 item
  pub text : text_of item ≡ Some to

-- a lists b as a child, and as a parent
abbrev pub Children : List (Tree × Tree) → List ℕ → List ℕ → Type 0
Children objects a b = Lists (chars (codes "children")) objects a b

abbrev pub Parents : List (Tree × Tree) → List ℕ → List ℕ → Type 0
Parents objects a b = Lists (chars (codes "parents")) objects a b

-- the four rules: a child that is not in the feature; a child in the feature that does not list the city object as a
-- parent, where that is no group; a parent in the feature that does not list the city object as a child; and parents of
-- which none is in the feature, where the city object is of the second level
pub data IsLinkFault (objects : List (Tree × Tree)) : Finding → Type 0 where
  child_not_found : (a : Tree × Tree) (item : Tree) (b : List ℕ) → Contains objects a → is_group a.1 ≡ false
      → IsListed (chars (codes "children")) a.1 item → text_of item ≡ Some b → ¬ IsIn objects b
      → IsLinkFault objects (found_at (start_of item) ChildNotFound)
  child_not_mutual : (a : Tree × Tree) (item : Tree) (x b : List ℕ) → Contains objects a → is_group a.1 ≡ false
      → IsListed (chars (codes "children")) a.1 item → text_of a.0 ≡ Some x → text_of item ≡ Some b
      → IsIn objects b → ¬ Parents objects b x → IsLinkFault objects (found_at (start_of item) LinkNotMutual)
  parent_not_mutual : (b : Tree × Tree) (item : Tree) (a x : List ℕ) → Contains objects b
      → IsListed (chars (codes "parents")) b.1 item → text_of b.0 ≡ Some x → text_of item ≡ Some a → IsIn objects a
      → ¬ Children objects a x
      → IsLinkFault objects (found_at (start_of item) LinkNotMutual)
  no_parent : (b : Tree × Tree) (array : Tree) → Contains objects b → at_second_level b.1 ≡ true
      → member_of (chars (codes "parents")) b.1 ≡ Some array → kind_of array ≡ Array
      → ((item : Tree) (a : List ℕ) → Contains (items_of array) item → text_of item ≡ Some a → ¬ IsIn objects a)
      → IsLinkFault objects (found_at (start_of b.1) NoParent)
