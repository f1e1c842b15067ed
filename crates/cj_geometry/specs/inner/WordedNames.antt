-- Names with the words of their texts: what each stands for, and how they are ordered.
use Rattle.std.specs.Prelude.{◌≡◌, ◌⊎◌, ◌+◌, ◌*◌, ℕ, List, [], ◌∷◌, ◌++◌, map, false, Option, Some, option_map, All}
use Rattle.std.specs.Prelude.{Contains, true}
use Rattle.std.specs.List.Sorted.{IsPermutation}
use Rattle.std.specs.declared.cmp.Ordering.{Ordering}
use Rattle.std.specs.Ordering.{ordering_then, nat_cmp, is_lt}
use Rattle.cj_spans.specs.declared.node.Source.{Source}
use Rattle.cj_spans.specs.Meaning.Tree.{Tree}
use Rattle.cj_spans.specs.Meaning.Parts.{text_of}
use Rattle.cj_spans.specs.Order.{front_word}
use Rattle.cj_spans.specs.View.{tree_in}
use Rattle.cj_geometry.specs.inner.Names.{compare_names, is_above, is_below, is_past}
use Rattle.cj_geometry.specs.declared.rule.order.WordedName.{WordedName}

-- the tree of a name, in its line
abbrev pub name_in : Source → WordedName → Tree
name_in s e = tree_in s e.number

-- the names of several, and of one that may be there
abbrev pub names_in : Source → List WordedName → List Tree
names_in s es = map (name_in s) es

abbrev pub limit_in : Source → Option WordedName → Option Tree
limit_in s o = option_map (name_in s) o

-- the word that is kept in two halves
abbrev pub word_in : WordedName → ℕ
word_in e = e.upper * 4294967296 + e.lower

-- it is that of the name's text
abbrev pub IsWorded : Source → WordedName → Type 0
IsWorded s e = word_in e ≡ front_word (text_of (name_in s e))

-- how two are ordered: by their words, and then by their names
abbrev pub compare_worded : Source → WordedName → WordedName → Ordering
compare_worded s d e = ordering_then (nat_cmp (word_in d) (word_in e)) (compare_names (name_in s d) (name_in s e))

-- the front has the least of all, up to the next one: none of the front is greater, and none of the others is
-- less
pub record AreLeast (s : Source) (all front : List WordedName) (next : WordedName) : Type 0 where
  pub others : List WordedName
  pub permutation : IsPermutation all (front ++ next ∷ others)
  pub before : All (λ e. is_lt (compare_worded s next e) ≡ false) front
  pub behind : All (λ e. is_lt (compare_worded s e next) ≡ false) others

-- a name taken beside these: they are one more then, or, where there is no room for that, the least of them,
-- and the next one is the ceiling
abbrev pub TakeOne : Source → WordedName → List WordedName → Option WordedName → List WordedName → Option WordedName
    → Type 0
TakeOne s e old ceiling new next = ((new ≡ old ++ e ∷ []) × (next ≡ ceiling)) ⊎ (c : WordedName) × (next ≡ Some c)
    × AreLeast s (old ++ e ∷ []) new c

-- one of these names, above the floor and not past the ceiling
pub record IsHeldName (s : Source) (names : List Tree) (floor ceiling : Option Tree) (e : WordedName) : Type 0 where
  pub word : IsWorded s e
  pub named : Contains names (name_in s e)
  pub above : is_above floor (name_in s e) ≡ true
  pub under : is_past ceiling (name_in s e) ≡ false

-- such have all names above the floor and below the ceiling, but for those that are still to come
pub record HoldNames (s : Source) (names left : List Tree) (floor ceiling : Option Tree) (es : List WordedName) :
    Type 0 where
  pub held : All (IsHeldName s names floor ceiling) es
  pub whole : (t : Tree) → Contains names t → is_above floor t ≡ true → is_below ceiling t ≡ true
      → Contains (names_in s es) t ⊎ Contains left t
