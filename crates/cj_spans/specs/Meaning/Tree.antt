-- JSON trees with places: each value and each name has its start and its stop. Scalars and names have their bytes.
use Rattle.std.specs.Prelude.{ℕ, suc, ◌+◌, max, List}
use Rattle.cj_spans.specs.declared.token.Kind.{Kind}

-- a scalar or a name: where it starts, where it stops, and the bytes between
pub record Atom : Type 0 where
  pub start : ℕ
  pub stop : ℕ
  pub spelling : List ℕ

mutual
  -- a scalar of a kind, an array of items, or an object of members
  pub data Tree : Type 0 where
    scalar : Kind → Atom → Tree
    array : (start stop : ℕ) → Items → Tree
    object : (start stop : ℕ) → Members → Tree

  -- trees, in order
  pub data Items : Type 0 where
    no_items : Items
    item : Tree → Items → Items

  -- names with their trees, in order
  pub data Members : Type 0 where
    no_members : Members
    member : Atom → Tree → Members → Members

-- where a tree starts
abbrev pub start_of : Tree → ℕ
start_of (scalar k a) = a.start
start_of (array i j ts) = i
start_of (object i j ms) = i

-- one more item at the end
abbrev pub add_item : Items → Tree → Items
add_item no_items t = item t no_items
add_item (item u ts) t = item u (add_item ts t)

-- one more member at the end
abbrev pub add_member : Members → Atom → Tree → Members
add_member no_members n t = member n t no_members
add_member (member m u ms) n t = member m u (add_member ms n t)

-- the number of values and member names (RULES, trees)
abbrev mutual
  pub size : Tree → ℕ
  size (scalar k a) = 1
  size (array i j ts) = suc (items_size ts)
  size (object i j ms) = suc (members_size ms)

  pub items_size : Items → ℕ
  items_size no_items = 0
  items_size (item t ts) = size t + items_size ts

  pub members_size : Members → ℕ
  members_size no_members = 0
  members_size (member n t ms) = suc (size t + members_size ms)

-- 0 for a scalar, else 1 plus the greatest nest of the parts: the depth (RULES, trees)
abbrev mutual
  pub nest : Tree → ℕ
  nest (scalar k a) = 0
  nest (array i j ts) = suc (items_nest ts)
  nest (object i j ms) = suc (members_nest ms)

  pub items_nest : Items → ℕ
  items_nest no_items = 0
  items_nest (item t ts) = max (nest t) (items_nest ts)

  pub members_nest : Members → ℕ
  members_nest no_members = 0
  members_nest (member n t ms) = max (nest t) (members_nest ms)
