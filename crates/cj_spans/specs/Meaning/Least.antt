-- The least finding as a relation, and lists with the same findings.
use Rattle.std.specs.Prelude.{◌≡◌, ◌<◌, ◌≤◌, ◌⊎◌, ◌↔◌, List, [], ◌∷◌, Option, Some, None, All, Contains}
use Rattle.cj_spans.specs.declared.finding.Finding.{Finding}
use Rattle.cj_spans.specs.Meaning.Reason.{code_of}

-- f comes before g or is as g: at a lower place, or at the same one with no greater code
abbrev pub IsNoLater : Finding → Finding → Type 0
IsNoLater f g = (f.place < g.place) ⊎ ((f.place ≡ g.place) × (code_of f.reason ≤ code_of g.reason))

-- the least of these findings: none where there are none, else one of them of which all are no earlier
abbrev pub IsLeast : List Finding → Option Finding → Type 0
IsLeast fs None = fs ≡ []
IsLeast fs (Some f) = Contains fs f × All (IsNoLater f) fs

-- the same findings, in whatever order and however often
abbrev pub HaveSame : List Finding → List Finding → Type 0
HaveSame fs gs = (f : Finding) → Contains fs f ↔ Contains gs f

-- what was kept, as a list
abbrev pub list_found : Option Finding → List Finding
list_found None = []
list_found (Some f) = f ∷ []
