-- Worked trees and rules.
use Rattle.std.specs.Prelude.{ℕ, List, [], ◌∷◌, Option, Some, None, codes, flat_map}
use Rattle.cj_spans.specs.declared.token.Kind.{Kind}
use Rattle.cj_spans.specs.declared.token.Kind.TheVariants.{Null, Truth, Number, Text, Array, Object}
use Rattle.cj_spans.specs.declared.reason.Reason.TheVariants.{WrongKind, MissingMember}
use Rattle.cj_spans.specs.declared.finding.Finding.{Finding}
use Rattle.cj_spans.specs.Meaning.Finding.{found_at}
use Rattle.cj_spans.specs.Meaning.Parts.{kind_of, items_of, member_of}
use Rattle.cj_spans.specs.Meaning.Tree.{Tree, start_of, scalar, array, object, no_items, no_members, member}
use Rattle.cj_spans.specs.Meaning.Json.{atom_at}

-- the line of the tree
abbrev pub line : List ℕ
line = codes "{\"a\":{\"b\":[]},\"c\":0}"

-- a tree of seven values and names
abbrev pub seven : Tree
seven = object 0 20 (member (atom_at line 1 4)
    (object 5 13 (member (atom_at line 6 9) (array 10 12 no_items) no_members))
    (member (atom_at line 14 17) (scalar Number (atom_at line 18 19)) no_members))

-- a line of one name twice, spelled in two ways
abbrev pub named_line : List ℕ
named_line = codes "{\"\\u0062\":1,\"b\":2}"

-- its tree
abbrev pub named : Tree
named = object 0 18 (member (atom_at named_line 1 9) (scalar Number (atom_at named_line 10 11))
    (member (atom_at named_line 12 15) (scalar Number (atom_at named_line 16 17)) no_members))

-- a rule over items: each is a number, else a finding at the item
abbrev pub at_other : Kind → ℕ → List Finding
at_other Number p = []
at_other Null p = found_at p WrongKind ∷ []
at_other Truth p = found_at p WrongKind ∷ []
at_other Text p = found_at p WrongKind ∷ []
at_other Array p = found_at p WrongKind ∷ []
at_other Object p = found_at p WrongKind ∷ []

abbrev pub not_number : Tree → List Finding
not_number t = at_other (kind_of t) (start_of t)

abbrev pub not_numbers : Tree → List Finding
not_numbers t = flat_map not_number (items_of t)

-- the same one level down
abbrev pub not_lists_of_numbers : Tree → List Finding
not_lists_of_numbers t = flat_map not_numbers (items_of t)

-- a rule over a member: it is there, else a finding at the object
abbrev pub at_none : Option Tree → ℕ → List Finding
at_none None p = found_at p MissingMember ∷ []
at_none (Some t) p = not_number t

abbrev pub member_no_number : List ℕ → Tree → List Finding
member_no_number s t = at_none (member_of s t) (start_of t)
