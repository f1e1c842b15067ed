-- How the ids of a query are kept, so that one is found among many.
use Rattle.std.specs.Prelude.{◌≡◌, ℕ, Bool, true, not, cond, ◌&&◌, ◌||◌, nat_eq, nat_lt, ◌≤◌, List, [], ◌∷◌, length}
use Rattle.std.specs.Prelude.{map, take, drop, sum, All, Option, Some, slice_index, slice_range}
use Rattle.std.specs.List.{list_any}
use Rattle.std.specs.List.Sorted.{IsPermutation, IsSortedBy}
use Rattle.std.specs.Ordering.{nat_cmp, ordering_then, is_lt}
use Rattle.std.specs.Str.{chars, IsCharBoundary}
use Rattle.std.specs.declared.cmp.Ordering.{Ordering}
use Rattle.cj_spans.specs.Tail.{tail_of}
use Rattle.cj_spans.specs.Order.{compare_texts}
use Rattle.cj_stream.specs.declared.query.ids.Entry.{Entry}

-- what ids are ordered by: the end of a text as a number, and then the text
pub record Key : Type 0 where
  pub number : ℕ
  pub text : Option (List ℕ)

-- the key of a text
abbrev pub key_of : Option (List ℕ) → Key
key_of text = record { number = tail_of text; text = text }

-- how two keys are ordered
abbrev pub compare_keys : Key → Key → Ordering
compare_keys a b = ordering_then (nat_cmp a.number b.number) (compare_texts a.text b.text)

-- the pieces of some bytes that have these lengths, one after another
abbrev pub pieces : List ℕ → List ℕ → List (List ℕ)
pieces bytes [] = []
pieces bytes (n ∷ ns) = take n bytes ∷ pieces (drop n bytes) ns

-- whether the bytes of a text may be cut at a place: a character begins there, or they end
abbrev pub may_cut : List ℕ → ℕ → Bool
may_cut bytes place = cond (nat_lt place (length bytes))
    (nat_lt (slice_index bytes place) 128 || nat_lt 191 (slice_index bytes place)) (nat_eq place (length bytes))

-- the piece of a text from one place to another; the empty one where it may not be cut there
abbrev pub piece : List ℕ → ℕ → ℕ → List ℕ
piece bytes start end = cond (not (nat_lt end start) && (may_cut bytes start && may_cut bytes end))
    (slice_range bytes start end) []

-- the key of an entry beside the bytes of all ids, of which it tells where its own begins and ends
abbrev pub key_at : List ℕ → Entry → Key
key_at bytes entry = record { number = entry.number; text = Some (chars (piece bytes entry.start entry.end)) }

abbrev pub keys_at : List ℕ → List Entry → List Key
keys_at bytes entries = map (key_at bytes) entries

-- the keys of ids
abbrev pub keys_of : List (List ℕ) → List Key
keys_of ids = map (λ id. key_of (Some (chars id))) ids

-- keys in order
abbrev pub Ascend : List Key → Type 0
Ascend keys = IsSortedBy (λ a b. is_lt (compare_keys a b)) keys

-- a part of some entries has all of them that have this number: what only these pass, passes in the part as in the
-- whole
abbrev pub HasAllOf : ℕ → List Entry → List Entry → Type 0
HasAllOf number part whole = (test : Entry → Bool) → ((entry : Entry) → test entry ≡ true → entry.number ≡ number)
    → list_any test part ≡ list_any test whole

-- keys stand in runs of these lengths, of which each is in order
abbrev pub AreRuns : List Key → List ℕ → Type 0
AreRuns keys [] = keys ≡ []
AreRuns keys (n ∷ ns) = (n ≤ length keys) × Ascend (take n keys) × AreRuns (drop n keys) ns

-- a text may be cut where the id of an entry begins and where it ends
abbrev pub IsSlice : List ℕ → Entry → Type 0
IsSlice bytes entry = (entry.start ≤ entry.end) × IsCharBoundary bytes entry.start × IsCharBoundary bytes entry.end

-- ids of these lengths follow one another, each has its entry, and the entries are in runs of these lengths
pub record AreIndexed (bytes : List ℕ) (lengths : List ℕ) (entries : List Entry) (runs : List ℕ) : Type 0 where
  pub held : sum lengths ≡ length bytes
  pub within : All (IsSlice bytes) entries
  pub each : IsPermutation (keys_of (pieces bytes lengths)) (keys_at bytes entries)
  pub ordered : AreRuns (keys_at bytes entries) runs
