-- How much was held at most of the lines of a stream so far.
use Rattle.std.specs.Prelude.{◌≡◌, ℕ, ◌+◌, ◌≤◌, List, Bool, true, false, not, nat_lt, ◌&&◌, ◌||◌}
use Rattle.std.specs.Prelude.{if◌then◌else◌, length, map, min, take}
use Rattle.std.specs.List.{flat_map, list_all}
use Rattle.std.specs.Str.{is_utf8}
use Rattle.cj_budget.specs.Meaning.Limits.{LimitPair}
use Rattle.cj_budget.specs.declared.limits.Peaks.{Peaks}
use Rattle.cj_spans.specs.Meaning.Judgement.{Judgement, spelled, broken, sunk, judged_size, judged_nest}
use Rattle.cj_spans.proofs.Judgements.{judgement}
use Rattle.cj_stream.specs.Meaning.Bound.{of_first, greatest}
use Rattle.cj_stream.specs.Meaning.Lines.{lines, raw}
use Rattle.cj_stream.specs.Lines.{later_of, first_content}
use Rattle.cj_stream.specs.Meaning.Verdict.{is_blank_byte}

-- no count is above the other's
pub record IsBelow (a b : Peaks) : Type 0 where
  pub bytes : a.bytes ≤ b.bytes
  pub tokens : a.tokens ≤ b.tokens
  pub depth : a.depth ≤ b.depth

-- a content is looked at as a JSON text that is within the line limit and UTF-8
abbrev pub is_text : LimitPair → List ℕ → Bool
is_text limits c = not (nat_lt limits.line (length c)) && is_utf8 c

-- the values and names of the tree that such a content spells, or 0 where it spells none
abbrev pub tree_size : LimitPair → List ℕ → ℕ
tree_size limits c = if is_text limits c then judged_size (judgement c limits.depth) else 0

-- the most containers that are open in it, or 0
abbrev pub tree_nest : LimitPair → List ℕ → ℕ
tree_nest limits c = if is_text limits c then judged_nest (judgement c limits.depth) else 0

-- the contents of the lines of a stream
abbrev pub contents : List ℕ → List (List ℕ)
contents s = map (λ l. l.content) (lines s)

-- the bytes that are held of a content: those up to the line limit
abbrev pub held_length : LimitPair → List ℕ → ℕ
held_length limits c = min (length c) limits.line

-- what is held at most of a stream: the bytes and tokens of the first line with those of the later line that has the
-- most, and the most open containers of all lines
abbrev pub exact_peaks : LimitPair → List ℕ → Peaks
exact_peaks limits s = record {
  bytes = length (first_content s) + greatest (held_length limits) (later_of (contents s));
  tokens = of_first (tree_size limits) (contents s) + greatest (tree_size limits) (later_of (contents s));
  depth = greatest (tree_nest limits) (contents s);
}

-- the bytes of the first n lines of a stream
abbrev pub first_lines : ℕ → List ℕ → List ℕ
first_lines n s = flat_map raw (take n (lines s))

-- a tree was found
abbrev pub is_spelled : {c : List ℕ} {depth : ℕ} → Judgement c depth → Bool
is_spelled (spelled tree json shallow) = true
is_spelled (broken place syntax shallow) = false
is_spelled (sunk place deep) = false

-- a content that is looked at as a JSON text is blank, or spells a tree
abbrev pub is_readable : LimitPair → List ℕ → Bool
is_readable limits c = is_text limits c && (list_all is_blank_byte c || is_spelled (judgement c limits.depth))

-- all later lines of a stream are so
abbrev pub are_legible : LimitPair → List ℕ → Bool
are_legible limits s = list_all (is_readable limits) (later_of (contents s))

-- The peaks of a complete stream, as a run reports them. The bytes are exact. Tokens and open containers are, too,
-- where all later lines are blank or spell a tree; a line that is neither may have added to these before that was seen.
pub record IsExact (limits : LimitPair) (s : List ℕ) (peaks : Peaks) : Type 0 where
  pub bytes : peaks.bytes ≡ (exact_peaks limits s).bytes
  pub least : IsBelow (exact_peaks limits s) peaks
  pub legible : are_legible limits s ≡ true → peaks ≡ exact_peaks limits s
