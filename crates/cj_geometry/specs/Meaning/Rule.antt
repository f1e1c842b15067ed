-- Rules that stand alone: kinds, members, names, lengths (RULES, terms).
use Rattle.std.specs.Prelude.{ℕ, List, [], ◌∷◌, ◌++◌, length, Bool, cond, nat_eq, Option, Some, None}
use Rattle.std.specs.List.{flat_map}
use Rattle.std.specs.Option.{option_map_or}
use Rattle.cj_spans.specs.declared.token.Kind.{Kind}
use Rattle.cj_spans.specs.declared.reason.Reason.{Reason}
use Rattle.cj_spans.specs.declared.reason.Reason.TheVariants.{MissingMember, DuplicateName, WrongKind}
use Rattle.cj_spans.specs.declared.finding.Finding.{Finding}
use Rattle.cj_spans.specs.Meaning.Finding.{found_at}
use Rattle.cj_spans.specs.Meaning.Tree.{Tree, start_of}
use Rattle.cj_spans.specs.Meaning.Kinds.{is_array}
use Rattle.cj_spans.specs.Meaning.Parts.{kind_of, items_of, members_of, member_of, text_of, are_same_texts}

-- one finding, where the tree starts
abbrev pub one : Reason → Tree → List Finding
one reason t = found_at (start_of t) reason ∷ []

-- a value of another kind has a finding; one of the kind has those of a rule
abbrev pub of_kind : (Kind → Bool) → (Tree → List Finding) → Tree → List Finding
of_kind is rule t = cond (is (kind_of t)) (rule t) (one WrongKind t)

-- a rule without findings
abbrev pub nothing : Tree → List Finding
nothing t = []

-- an object has a finding if a member is missing
abbrev pub missing : Tree → Option Tree → List Finding
missing g None = one MissingMember g
missing g (Some t) = []

-- a rule for a member that may be missing
abbrev pub if_there : (Tree → List Finding) → Option Tree → List Finding
if_there rule o = option_map_or rule o []

-- the object may have a member of this name, which follows a rule
abbrev pub may_have : List ℕ → (Tree → List Finding) → Tree → List Finding
may_have name rule g = if_there rule (member_of name g)

-- the object needs a member of this name, which follows a rule
abbrev pub needs : List ℕ → (Tree → List Finding) → Tree → List Finding
needs name rule g = missing g (member_of name g) ++ may_have name rule g

-- a finding at each of these names that has the text of this one
abbrev pub repeats_of : Tree → List (Tree × Tree) → List Finding
repeats_of name ms = flat_map (λ m. cond (are_same_texts (text_of m.0) (text_of name)) (one DuplicateName m.0) []) ms

-- a finding at each name that has the text of an earlier one
abbrev pub repeats : List (Tree × Tree) → List Finding
repeats [] = []
repeats (m ∷ ms) = repeats_of m.0 ms ++ repeats ms

-- the names of an object are distinct
abbrev pub distinct : Tree → List Finding
distinct g = repeats (members_of g)

-- an array has exactly n items
abbrev pub has_length : Reason → ℕ → Tree → List Finding
has_length reason n t = cond (nat_eq (length (items_of t)) n) [] (one reason t)

-- an array of exactly n items, and a rule for each
abbrev pub of_length : Reason → ℕ → (Tree → List Finding) → Tree → List Finding
of_length reason n rule t = of_kind is_array (λ u. has_length reason n u ++ flat_map rule (items_of u)) t
