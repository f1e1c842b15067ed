-- Questions on links: whether a city object of one text lists another. Many are answered at once, in the order of
-- texts.
use Rattle.std.specs.Prelude.{◌≡◌, ℕ, ◌≤◌, List, Bool, true, false, Option, Some, slice_get, slice_index_or, take}
use Rattle.std.specs.Prelude.{length}
use Rattle.std.specs.List.Sorted.{IsSortedByKey, IsPartitionPoint}
use Rattle.std.specs.Ordering.{is_lt, nat_cmp, ordering_then}
use Rattle.std.specs.declared.cmp.Ordering.{Ordering}
use Rattle.cj_spans.specs.declared.node.Node.{Node}
use Rattle.cj_spans.specs.Order.{compare_texts}
use Rattle.cj_spans.specs.Meaning.Tree.{Tree}
use Rattle.cj_spans.specs.Meaning.Parts.{members_of, text_of}
use Rattle.cj_spans.specs.View.{tree, source_of, tree_in}
use Rattle.cj_feature.specs.declared.feature.search.noted.Noted.{Noted}
use Rattle.cj_feature.specs.declared.feature.search.hashed.Text.{Text}
use Rattle.cj_feature.specs.declared.feature.search.questions.order.Pair.{Pair}
use Rattle.cj_feature.specs.declared.feature.search.questions.order.Question.{Question}
use Rattle.cj_feature.specs.declared.feature.search.questions.Questions.{Questions}
use Rattle.cj_feature.specs.declared.feature.search.questions.LinkAnswer.{LinkAnswer}
use Rattle.cj_feature.specs.declared.feature.search.questions.LinkAnswer.TheVariants.{Listed, Absent, Unknown}
use Rattle.cj_feature.specs.inner.ShortHash.{short_hash_of}
use Rattle.cj_feature.specs.Meaning.Links.{same_text, is_known, lists}

-- ---- the order of questions

-- what a text is ordered by: its short hash, and then the text
abbrev pub Side : Type 0
Side = ℕ × Option (List ℕ)

abbrev pub compare_sides : Side → Side → Ordering
compare_sides s t = ordering_then (nat_cmp s.0 t.0) (compare_texts s.1 t.1)

abbrev pub side_of : Option (List ℕ) → Side
side_of t = (short_hash_of t, t)

abbrev pub text_side : Text → Side
text_side t = (t.short_hash, text_of (tree t.node))

-- a text is noted by the number of a node in the line of the city objects
abbrev pub noted_in : Node → Noted → Tree
noted_in objects n = tree_in (source_of objects) n.number

abbrev pub side_in : Node → Noted → Side
side_in objects n = (n.short_hash, text_of (noted_in objects n))

-- what questions are ordered by: their first texts, and then their second ones
abbrev pub Key : Type 0
Key = Side × Side

abbrev pub compare_keys : Key → Key → Ordering
compare_keys k l = ordering_then (compare_sides k.0 l.0) (compare_sides k.1 l.1)

-- the key of two texts
abbrev pub key_of : Option (List ℕ) → Option (List ℕ) → Key
key_of from to = (side_of from, side_of to)

abbrev pub pair_key : Pair → Key
pair_key p = (text_side p.from, text_side p.to)

abbrev pub from_in : Node → Question → Tree
from_in objects q = noted_in objects q.from

abbrev pub to_in : Node → Question → Tree
to_in objects q = noted_in objects q.to

abbrev pub key_in : Node → Question → Key
key_in objects q = (side_in objects q.from, side_in objects q.to)

abbrev pub AreQuestionsInOrder : Node → List Question → Type 0
AreQuestionsInOrder objects qs = IsSortedByKey (key_in objects) compare_keys qs

-- the questions before this place come before the key, and no other
abbrev pub IsPlaceOf : Node → Key → List Question → ℕ → Type 0
IsPlaceOf objects k qs i =
    IsPartitionPoint (λ q. is_lt (compare_keys (key_in objects q) k) ≡ true)
    (λ q. is_lt (compare_keys (key_in objects q) k) ≡ false) qs i

-- the first question on a text stands at this place: what is no text comes before all texts, and so do the city objects
pub record IsFirstOn (objects : Node) (qs : List Question) (t : Tree) (i : ℕ) : Type 0 where
  pub place : IsPlaceOf objects (key_of (text_of t) (text_of (tree objects))) qs i
  pub question : Question
  pub stands : slice_get qs i ≡ Some question
  pub hashed : question.from.short_hash ≡ short_hash_of (text_of t)
  pub same : same_text (from_in objects question) t ≡ true

-- a question whether the one text lists the other stands at this place
pub record IsQuestion (objects : Node) (qs : List Question) (from to : Tree) (i : ℕ) : Type 0 where
  pub question : Question
  pub stands : slice_get qs i ≡ Some question
  pub first : same_text (from_in objects question) from ≡ true
  pub second : same_text (to_in objects question) to ≡ true

-- ---- what is found

-- whichever texts are those of the question, a city object of the first lists the second
abbrev pub IsListed : List ℕ → Node → Question → Type 0
IsListed list objects q =
    (from to : Tree) → same_text (from_in objects q) from ≡ true → same_text (to_in objects q) to ≡ true
    → lists list (members_of (tree objects)) from to ≡ true

-- so it is with each question that has a flag
abbrev pub AreListed : List ℕ → Node → List Question → List Bool → Type 0
AreListed list objects qs flags = (i : ℕ) (q : Question) → slice_get qs i ≡ Some q → slice_index_or flags i false ≡ true
    → IsListed list objects q

-- where the first question on a text has no flag, the text is an id exactly if it is one of those that are left
abbrev pub AreLeft : Node → List Question → List Bool → List (Tree × Tree) → Type 0
AreLeft objects qs flags left =
    (t : Tree) (i : ℕ) → IsFirstOn objects qs t i → slice_index_or flags i false ≡ false
    → is_known (members_of (tree objects)) t ≡ is_known left t

-- the questions that are noted
abbrev pub noted : {R K : ℕ} → Questions R K → List Question
noted a = take a.count a.questions

-- they stand in order, and their flags answer them by all city objects but those that are left
pub record AreAnswered {R K : ℕ} (list : List ℕ) (objects : Node) (left : List (Tree × Tree)) (a : Questions R K) :
    Type 0 where
  pub few : a.count ≤ length a.questions
  pub order : AreQuestionsInOrder objects (noted a)
  pub listed : AreListed list objects (noted a) a.listed
  pub known : AreLeft objects (noted a) a.known left

-- what an answer says of two texts
abbrev pub IsAnswer : List ℕ → Node → Tree → Tree → LinkAnswer → Type 0
IsAnswer list objects from to Listed = lists list (members_of (tree objects)) from to ≡ true
IsAnswer list objects from to Absent = is_known (members_of (tree objects)) from ≡ false
IsAnswer list objects from to Unknown = Unit {0}
