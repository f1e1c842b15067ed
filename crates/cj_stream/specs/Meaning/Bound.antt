-- The most that may be held, and how much was held at most.
use Rattle.std.specs.Prelude.{◌≡◌, ℕ, ◌+◌, ◌/◌, ◌≤◌, List, [], ◌∷◌, Bool, true, false, ◌||◌, length, max, min, Option}
use Rattle.std.specs.Prelude.{drop, is_some}
use Rattle.std.specs.List.{list_all}
use Rattle.std.specs.Option.{option_map_or}
use Rattle.cj_budget.specs.Meaning.Limits.{LimitPair}
use Rattle.cj_budget.specs.declared.limits.Peaks.{Peaks}
use Rattle.cj_spans.specs.Meaning.Tree.{Tree, size, nest}
use Rattle.cj_stream.specs.Meaning.Judged.{JudgedLine}
use Rattle.cj_stream.specs.Meaning.Lines.{Line, lines}
use Rattle.cj_stream.specs.Meaning.Verdict.{Verdict, Blank}

-- a measure of the first of some things, or 0
abbrev pub of_first : {X : Type 0} → (X → ℕ) → List X → ℕ
of_first measure [] = 0
of_first measure (x ∷ xs) = measure x

-- ---- the bound

-- the bytes of a stream's first line, cut at the line limit
abbrev pub first_bytes : LimitPair → List ℕ → ℕ
first_bytes limits s = min (of_first (λ (l : Line). length l.content) (lines s)) limits.line

-- the bytes of the first line, and those of one line more
abbrev pub bytes_bound : LimitPair → List ℕ → ℕ
bytes_bound limits s = first_bytes limits s + limits.line

-- a token for each two bytes of these, and of open containers
abbrev pub tokens_bound : LimitPair → List ℕ → ℕ
tokens_bound limits s = (first_bytes limits s + limits.line + limits.depth) / 2 + 1

-- what was held at most is within the bound for the bytes so far
pub record IsBounded (limits : LimitPair) (s : List ℕ) (peaks : Peaks) : Type 0 where
  pub bytes : peaks.bytes ≤ bytes_bound limits s
  pub tokens : peaks.tokens ≤ tokens_bound limits s
  pub depth : peaks.depth ≤ limits.depth

-- ---- the peaks of a complete stream, by its judged lines

-- the greatest measure of some things, or 0
abbrev pub greatest : {X : Type 0} → (X → ℕ) → List X → ℕ
greatest measure [] = 0
greatest measure (x ∷ xs) = max (measure x) (greatest measure xs)

-- the bytes of a line, and those that are held of a later one: up to the line limit
abbrev pub line_bytes : JudgedLine → ℕ
line_bytes j = length j.line.content

abbrev pub held_bytes : LimitPair → JudgedLine → ℕ
held_bytes limits j = min (line_bytes j) limits.line

-- the values and names of a tree, and the most containers that are open in it; or 0 where there is none
abbrev pub size_if : Option Tree → ℕ
size_if t = option_map_or size t 0

abbrev pub nest_if : Option Tree → ℕ
nest_if t = option_map_or nest t 0

-- the bytes and tokens of the first line with those of the later line that has the most, and the most open containers
abbrev pub peaks_in : LimitPair → List JudgedLine → Peaks
peaks_in limits js = record {
  bytes = of_first line_bytes js + greatest (held_bytes limits) (drop 1 js);
  tokens = of_first (λ j. size_if j.tree) js + greatest (λ j. size_if j.tree) (drop 1 js);
  depth = greatest (λ j. nest_if j.tree) js;
}

-- a line is blank, or spells a tree
abbrev pub is_blank_verdict : Verdict → Bool
is_blank_verdict Blank = true
is_blank_verdict verdict = false

abbrev pub is_legible : JudgedLine → Bool
is_legible j = is_blank_verdict j.verdict || is_some j.tree

-- What was held at most of a complete stream. The bytes are exact. Tokens and open containers are exact, too, if each
-- later line is blank or spells a tree. A line that is neither may have added to these before that was seen.
pub record HasPeaks (limits : LimitPair) (js : List JudgedLine) (peaks : Peaks) : Type 0 where
  pub bytes : peaks.bytes ≡ (peaks_in limits js).bytes
  pub tokens : (peaks_in limits js).tokens ≤ peaks.tokens
  pub depth : (peaks_in limits js).depth ≤ peaks.depth
  pub legible : list_all is_legible (drop 1 js) ≡ true → peaks ≡ peaks_in limits js
