-- The grammar of RFC 8259 (sections 2 to 5) over places: the bytes i to j of b spell the placed tree t.
use Rattle.std.specs.Prelude.{◌≡◌, ℕ, suc, ◌<◌, ◌≤◌, List, length, true, get_or, slice_range}
use Rattle.cj_spans.specs.declared.token.Kind.{Kind}
use Rattle.cj_spans.specs.declared.token.Kind.TheVariants.{Text}
use Rattle.cj_spans.specs.Meaning.Tree.{Atom, Tree, scalar, array, object, Items, no_items, Members, no_members}
use Rattle.cj_spans.specs.Meaning.Tree.{add_item, add_member}
use Rattle.cj_spans.specs.Meaning.Spelling.{is_white_space, IsScalar}
use Rattle.cj_spans.specs.Meaning.Signs.{colon, comma, left_brace, left_bracket, right_brace, right_bracket}

-- the byte at the place i, or 0 past the end
abbrev pub byte : List ℕ → ℕ → ℕ
byte b i = get_or b i 0

-- the bytes i to j with their places
abbrev pub atom_at : List ℕ → ℕ → ℕ → Atom
atom_at b i j = record { start = i; stop = j; spelling = slice_range b i j }

-- white space, perhaps none
pub record White (b : List ℕ) (i j : ℕ) : Type 0 where
  pub order : i ≤ j
  pub each : (k : ℕ) → i ≤ k → k < j → is_white_space (byte b k) ≡ true

-- a scalar of the kind
pub record IsAtom (b : List ℕ) (k : Kind) (i j : ℕ) : Type 0 where
  pub order : i < j
  pub within : j ≤ length b
  pub spelled : IsScalar k (slice_range b i j)

mutual
  -- a value: a scalar, an empty array, an array, an empty object or an object
  pub data Value (b : List ℕ) : ℕ → ℕ → Tree → Type 0 where
    atom : (k : Kind) (i j : ℕ) → IsAtom b k i j → Value b i j (scalar k (atom_at b i j))
    empty_array : (i j : ℕ) → byte b i ≡ left_bracket → White b (suc i) j → byte b j ≡ right_bracket
        → Value b i (suc j) (array i (suc j) no_items)
    full_array : (i j k : ℕ) (ts : Items) (t : Tree) → byte b i ≡ left_bracket → LedItems b (suc i) j ts
        → Padded b j k t → byte b k ≡ right_bracket
        → Value b i (suc k) (array i (suc k) (add_item ts t))
    empty_object : (i j : ℕ) → byte b i ≡ left_brace → White b (suc i) j → byte b j ≡ right_brace
        → Value b i (suc j) (object i (suc j) no_members)
    full_object : (i j k l : ℕ) (ms : Members) (n : Atom) (t : Tree) → byte b i ≡ left_brace → LedMembers b (suc i) j ms
        → Named b j k n → Padded b k l t → byte b l ≡ right_brace
        → Value b i (suc l) (object i (suc l) (add_member ms n t))

  -- a value with white space round it
  pub data Padded (b : List ℕ) : ℕ → ℕ → Tree → Type 0 where
    padded : (i j k l : ℕ) (t : Tree) → White b i j → Value b j k t → White b k l → Padded b i l t

  -- any number of values with white space round them, each followed by a comma
  pub data LedItems (b : List ℕ) : ℕ → ℕ → Items → Type 0 where
    no_led : (i : ℕ) → LedItems b i i no_items
    led : (i j k : ℕ) (ts : Items) (t : Tree) → LedItems b i j ts → Padded b j k t → byte b k ≡ comma
        → LedItems b i (suc k) (add_item ts t)

  -- any number of members, each followed by a comma
  pub data LedMembers (b : List ℕ) : ℕ → ℕ → Members → Type 0 where
    no_led_members : (i : ℕ) → LedMembers b i i no_members
    led_member : (i j k l : ℕ) (ms : Members) (n : Atom) (t : Tree) → LedMembers b i j ms → Named b j k n
        → Padded b k l t → byte b l ≡ comma
        → LedMembers b i (suc l) (add_member ms n t)

  -- a name with white space round it, and a colon
  pub data Named (b : List ℕ) : ℕ → ℕ → Atom → Type 0 where
    named : (i j k l : ℕ) → White b i j → IsAtom b Text j k → White b k l → byte b l ≡ colon
        → Named b i (suc l) (atom_at b j k)

-- the whole of b is a JSON text that spells t
abbrev pub Json : List ℕ → Tree → Type 0
Json b t = Padded b 0 (length b) t
