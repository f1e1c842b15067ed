-- Findings, each a place and a reason, and the least of them by place and code (RULES, findings).
use Rattle.std.specs.Prelude.{ℕ, ◌||◌, ◌&&◌, nat_lt, nat_eq, Bool, cond, List, [], ◌∷◌, Option, Some, None}
use Rattle.cj_spans.specs.declared.reason.Reason.{Reason}
use Rattle.cj_spans.specs.declared.finding.Finding.{Finding}
use Rattle.cj_spans.specs.Meaning.Reason.{code_of}

-- a reason at a place
abbrev pub found_at : ℕ → Reason → Finding
found_at p r = record { place = p; reason = r }

-- f comes before g
abbrev pub is_before : Finding → Finding → Bool
is_before f g = nat_lt f.place g.place || (nat_eq f.place g.place && nat_lt (code_of f.reason) (code_of g.reason))

-- the least of what was kept and one finding more
abbrev pub lesser : Option Finding → Finding → Option Finding
lesser None f = Some f
lesser (Some g) f = cond (is_before f g) (Some f) (Some g)

-- the least of what was kept and these findings
abbrev pub least : Option Finding → List Finding → Option Finding
least o [] = o
least o (f ∷ fs) = least (lesser o f) fs
