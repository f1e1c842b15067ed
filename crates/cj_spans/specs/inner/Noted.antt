-- What one walk notes of the members of an object: for each slot of a first character, the place of its first member.
use Rattle.std.specs.Prelude.{◌≡◌, ◌<◌, ℕ, ◌%◌, List, length, slice_set, get_or, Bool, false, cond, not, nat_eq, Option}
use Rattle.std.specs.Prelude.{None, Some}
use Rattle.cj_spans.specs.declared.node.Members.{Members}
use Rattle.cj_spans.specs.Initials.{head}
use Rattle.cj_spans.specs.Meaning.Parts.{first_named}
use Rattle.cj_spans.specs.Sound.{AreWhole, ShowMembers, shown_between}
use Rattle.cj_spans.specs.Meaning.Tree.{Tree}
use Rattle.cj_spans.specs.View.{members_left, pairs_of}

-- the members from a place of the walk on
abbrev pub members_from : Members → ℕ → List (Tree × Tree)
members_from w p = pairs_of (shown_between w.source.line.now w.source.tokens.now p w.stop)

-- a walk can go on at the place
pub record IsPlace (w : Members) (p : ℕ) : Type 0 where
  pub within : p < w.stop
  pub whole : AreWhole w.source.tokens.now p w.stop
  pub named : ShowMembers w.source.line.now w.source.tokens.now p w.stop

-- whether a place is noted. 0 is none: it is that of the whole line
abbrev pub is_noted : ℕ → Bool
is_noted p = not (nat_eq p 0)

-- the members from a noted place on. Where none is noted, those that are left
abbrev pub noted_from : Members → List (Tree × Tree) → ℕ → List (Tree × Tree)
noted_from w rest p = cond (is_noted p) (members_from w p) rest

-- a member is noted, if its slot has none
abbrev pub note : Option ℕ → ℕ → List ℕ → List ℕ
note None p ps = ps
note (Some c) p ps = cond (is_noted (get_or ps (c % 32) 0)) ps (slice_set ps (c % 32) p)

-- whether its slot has none
abbrev pub is_free : Option ℕ → List ℕ → Bool
is_free None ps = false
is_free (Some c) ps = not (is_noted (get_or ps (c % 32) 0))

-- all members but those of the rest are noted: the first member of a text is among those from the place of its slot on
pub record AreNoted (w : Members) (rest : List (Tree × Tree)) (ps : List ℕ) : Type 0 where
  pub count : length ps ≡ 32
  pub places : (i : ℕ) → 0 < get_or ps i 0 → IsPlace w (get_or ps i 0)
  pub first : (s : List ℕ) (c : ℕ) → head s ≡ Some c
      → first_named s (noted_from w rest (get_or ps (c % 32) 0)) ≡ first_named s (members_left w)
