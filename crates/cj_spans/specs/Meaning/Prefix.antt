-- Prefixes of JSON texts, and the places of faults (RULES, bytes of errors).
use Rattle.std.specs.Prelude.{◌≡◌, ℕ, suc, ◌<◌, ◌≤◌, List, ◌++◌, length, slice_range}
use Rattle.cj_spans.specs.declared.token.Kind.{Kind}
use Rattle.cj_spans.specs.declared.token.Kind.TheVariants.{Text}
use Rattle.cj_spans.specs.Meaning.Tree.{Atom, Tree, Items, Members}
use Rattle.cj_spans.specs.Meaning.Spelling.{IsScalar}
use Rattle.cj_spans.specs.Meaning.Json.{byte, White, IsAtom, Padded, LedItems, LedMembers, Named, Json}
use Rattle.cj_spans.specs.Meaning.Signs.{left_brace, left_bracket}

-- a prefix of the spelling of a scalar, of one byte at least
pub record Begun (b : List ℕ) (k : Kind) (i j : ℕ) : Type 0 where
  pub order : i < j
  pub within : j ≤ length b
  pub rest : List ℕ
  pub spelled : IsScalar k (slice_range b i j ++ rest)

mutual
  -- The bytes from `from` to `end` are a prefix of a value with white space round it, or the whole of one, with n
  -- containers open: white space; then a scalar that has begun; the value; an array up to an item that has begun; or an
  -- object up to a member that has begun.
  pub data JsonPrefix (b : List ℕ) : ℕ → ℕ → ℕ → Type 0 where
    white : (from end : ℕ) → White b from end → JsonPrefix b from end 0
    begun : (from scalar end : ℕ) (k : Kind) → White b from scalar → Begun b k scalar end → JsonPrefix b from end 0
    whole : (from end : ℕ) (t : Tree) → Padded b from end t → JsonPrefix b from end 0
    in_array : (from bracket item end n : ℕ) (ts : Items) → White b from bracket → byte b bracket ≡ left_bracket
        → LedItems b (suc bracket) item ts → JsonPrefix b item end n → JsonPrefix b from end (suc n)
    in_object : (from brace member end n : ℕ) (ms : Members) → White b from brace → byte b brace ≡ left_brace
        → LedMembers b (suc brace) member ms → MemberPrefix b member end n → JsonPrefix b from end (suc n)

  -- the same of a member: white space; then a name that has begun; a name and white space; or a name, a colon and a
  -- value that has begun
  pub data MemberPrefix (b : List ℕ) : ℕ → ℕ → ℕ → Type 0 where
    before_name : (from end : ℕ) → White b from end → MemberPrefix b from end 0
    in_name : (from name end : ℕ) → White b from name → Begun b Text name end → MemberPrefix b from end 0
    after_name : (from name stop end : ℕ) → White b from name → IsAtom b Text name stop → White b stop end
        → MemberPrefix b from end 0
    in_value : (from value end n : ℕ) (name : Atom) → Named b from value name → JsonPrefix b value end n
        → MemberPrefix b from end n

-- the first i bytes are a prefix of a JSON text
pub record IsJsonPrefix (b : List ℕ) (i : ℕ) : Type 0 where
  pub open_count : ℕ
  pub front : JsonPrefix b 0 i open_count

-- i is the least place for which the first i + 1 bytes are no prefix, or the length of a b that is only a prefix
pub data SyntaxAt (b : List ℕ) (i : ℕ) : Type 0 where
  stuck : i < length b → ((k : ℕ) → k < i → IsJsonPrefix b (suc k)) → (IsJsonPrefix b (suc i) → ⊥) → SyntaxAt b i
  short : i ≡ length b → ((k : ℕ) → k < i → IsJsonPrefix b (suc k)) → ((t : Tree) → Json b t → ⊥) → SyntaxAt b i

-- i is the least place for which the first i + 1 bytes have d + 1 containers open
pub record DeepAt (b : List ℕ) (d i : ℕ) : Type 0 where
  pub within : i < length b
  pub deep : JsonPrefix b 0 (suc i) (suc d)
  pub least : (k : ℕ) → k < i → JsonPrefix b 0 (suc k) (suc d) → ⊥

-- nowhere are d + 1 containers open
abbrev pub NowhereDeep : List ℕ → ℕ → Type 0
NowhereDeep b d = (i : ℕ) → DeepAt b d i → ⊥
