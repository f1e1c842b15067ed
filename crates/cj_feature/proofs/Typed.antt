-- Vertices of three whole numbers, and the maps of axes.
use Rattle.cj_feature.proofs.Common.{DecimalFault, Err, IfSome, IsWordOf, List, None, NotThree, Number, Ok, Option, Result, Some, Tree, [], ap, are_one, are_three, are_two, arith, as_whole, begins_whole, cases_lt, decimal_of, drop, drop-map, drop_all, eqb-true, flat_map, is_number, is_vertex, items_of, kind_of, length, list_all, map, nat_eq, number_on, of_length, one, option_and_then, pos, refl, result_ok, spelling, suc, sym, take, true, value_findings, vertex_list, vertex_of, whole_findings, whole_number, whole_of, zero, ℕ, ℤ, ◌<◌, ◌∙◌, ◌∷◌, ◌≡◌, ◌≤◌, Bool, and_parts, chars, codes, false, option_map, units_of}
use Rattle.cj_spans.specs.Forest.{total_size}
use Rattle.cj_geometry.proofs.Arrays.{whole-size}
use Rattle.cj_feature.proofs.Rules.{holds, kind-none, none-both, none-each}
use Rattle.std.proofs.Common.{get_or}
use Rattle.cj_decimal.specs.Meaning.Affine.{AffineMap}
use Rattle.cj_feature.specs.declared.header.reading.HeaderParts.{HeaderParts}
use Rattle.cj_feature.specs.Axes.{AreThere, first_maps, maps_of}
use Rattle.cj_feature.specs.Meaning.Transform.{transform_values}
use Rattle.cj_feature.specs.Shown.{ArePartsOf, maps_if}

-- ---- where the rules on vertices find nothing, vertices have three whole numbers

-- ---- vertices

whole-there : (t : Tree) (o : Option ℤ) → whole_findings (λ w. []) t o ≡ [] → (w : ℤ) × (o ≡ Some w)
whole-there t None h = absurd (cc h)
whole-there t (Some w) h = (w, refl)

by-value : (t : Tree) (r : Result Number DecimalFault)
    → value_findings (λ v. whole_findings (λ w. []) t (as_whole v)) t r ≡ []
    → (w : ℤ) × (option_and_then as_whole (result_ok r) ≡ Some w)
by-value t (Ok v) h = whole-there t _ h
by-value t (Err f) h = absurd (cc h)

whole-value : (t : Tree) → whole_number t ≡ [] → (w : ℤ) × (whole_of t ≡ Some w)
whole-value t h =
    let parts = kind-none _ (value_findings (λ v. whole_findings (λ w. []) t _) t
    (decimal_of _)) t h in
    from parts.0 (by-value t (decimal_of _) parts.1)
  where
    from : is_number (kind_of t) ≡ true → (w : ℤ) × (option_and_then as_whole (result_ok (decimal_of (spelling t)))
        ≡ Some w) → (w : ℤ) × (whole_of t ≡ Some w)
    from is value = (value.0, rw is value.1)

three : (ts : List Tree) → nat_eq (length ts) 3 ≡ true → flat_map whole_number ts ≡ []
    → are_three (map whole_of ts) ≡ true
three [] n h = absurd (cc n)
three (x ∷ []) n h = absurd (cc n)
three (x ∷ y ∷ []) n h = absurd (cc n)
three (x ∷ y ∷ z ∷ []) n h = search (arith, none-both, whole-value)
three (x ∷ y ∷ z ∷ w ∷ ts) n h = search (arith, eqb-true)

vertex : (t : Tree) → of_length NotThree 3 whole_number t ≡ [] → is_vertex t ≡ true
vertex t h = search (arith, none-both, kind-none, three, holds)

pub all-vertices : (t : Tree) → vertex_list t ≡ [] → list_all is_vertex (items_of t) ≡ true
all-vertices t h = search (arith, none-each, vertex, kind-none)

-- ---- the numbers of a vertex

one-begins : (axis : ℕ) (ws : List (Option ℤ)) → are_one ws ≡ true → axis < 1 → begins_whole (drop axis ws) ≡ true
one-begins axis [] h within = absurd (cc h)
one-begins axis (None ∷ ws) h within = absurd (cc h)
one-begins zero (Some x ∷ ws) h within = refl
one-begins (suc axis) (Some x ∷ ws) h within = absurd (omega arith)

two-begin : (axis : ℕ) (ws : List (Option ℤ)) → are_two ws ≡ true → axis < 2 → begins_whole (drop axis ws) ≡ true
two-begin axis [] h within = absurd (cc h)
two-begin axis (None ∷ ws) h within = absurd (cc h)
two-begin zero (Some x ∷ ws) h within = refl
two-begin (suc axis) (Some x ∷ ws) h within = one-begins _ ws h (omega arith)

-- from each of its three axes on a vertex begins with a whole number
pub three-begin : (axis : ℕ) (ws : List (Option ℤ)) → are_three ws ≡ true → axis < 3
    → begins_whole (drop axis ws) ≡ true
three-begin axis [] h within = absurd (cc h)
three-begin axis (None ∷ ws) h within = absurd (cc h)
three-begin zero (Some x ∷ ws) h within = refl
three-begin (suc axis) (Some x ∷ ws) h within = two-begin _ ws h (omega arith)

-- and that is its number on the axis
pub number-begins : (axis : ℕ) (ws rest : List (Option ℤ)) (n : ℤ) → drop axis ws ≡ Some n ∷ rest
    → number_on axis ws ≡ n
number-begins zero ws rest n e = rw e refl
number-begins (suc axis) [] rest n e = absurd (cc e)
number-begins (suc axis) (w ∷ ws) rest n e = number-begins _ ws _ n e

-- ---- the items of a vertex

begins-there : (o : Option ℤ) (ws : List (Option ℤ)) → begins_whole (o ∷ ws) ≡ true → (w : ℤ) × (o ≡ Some w)
begins-there None ws h = absurd (cc h)
begins-there (Some w) ws h = (w, refl)

lone : (axis : ℕ) (ts : List Tree) → ((k : ℕ) → k < axis → begins_whole (drop k (map whole_of ts)) ≡ true)
    → (axis ≤ length ts) × (total_size (take axis ts) ≡ axis)
lone zero ts h = (omega arith, refl)
lone (suc axis) [] h = absurd (cc (h 0 (omega arith)))
lone (suc axis) (x ∷ ts) h =
    let first = begins-there _ _ (h 0 (omega arith)) in
    let one = whole-size x _ first.1 in
    let rest = lone axis ts (λ k l. h (suc k) (omega arith)) in
    let count = rest.0 in let sizes = rest.1 in
    (omega (arith, count), omega (arith, one, sizes))

module _ (axis : ℕ) (t : Tree) (is : is_vertex t ≡ true) (within : axis < 3) where
  -- those before one are of one token each
  pub lone-before : (axis ≤ length (items_of t)) × (total_size (take axis (items_of t)) ≡ axis)
  lone-before = lone _ _ (λ k l. three-begin k _ is (omega arith))

  not-past : drop axis (items_of t) ≡ [] → ⊥
  not-past none =
      absurd (cc (ap begins_whole (sym (ap (map whole_of) none) ∙ sym (drop-map whole_of axis (items_of t)))
      ∙ three-begin axis (map whole_of (items_of t)) is within))

  pub within-items : axis < length (items_of t)
  within-items = search (arith, cases_lt, not-past, drop_all)

  module _ (x : Tree) (rest : List Tree) (e : drop axis (items_of t) ≡ x ∷ rest) where
    pub whole-on : (w : ℤ) × (whole_of x ≡ Some w)
    whole-on = begins-there (whole_of x) (map whole_of rest)
        (ap begins_whole (sym (ap (map whole_of) e) ∙ sym (drop-map whole_of axis (items_of t)))
        ∙ three-begin axis (map whole_of (items_of t)) is within)

    pub word-on-if : (o : Option ℕ) → IfSome o (λ w. (n : ℕ) × IsWordOf w n × (whole_of x ≡ Some (pos n)))
        → IfSome o (λ w. (n : ℕ) × IsWordOf w n × (number_on axis (vertex_of t) ≡ pos n))
    word-on-if None read = read
    word-on-if (Some w) read = search (arith, number-begins, drop-map)

-- ---- the maps that a header shows are of numbers that it has, and so are the numbers of a feature's vertices

-- ---- maps

first-there : (ns ms : List Number) (axis : ℕ) (d : AffineMap) → axis < length (first_maps (map Some ns) (map Some ms))
    → (option_map units_of (get_or (map Some ns) axis None)
    ≡ Some (get_or (first_maps (map Some ns) (map Some ms)) axis d).scale)
    × (option_map units_of (get_or (map Some ms) axis None)
    ≡ Some (get_or (first_maps (map Some ns) (map Some ms)) axis d).shift)
first-there [] ms axis d h = absurd (omega arith)
first-there (a ∷ []) ms axis d h = absurd (omega arith)
first-there (a ∷ b ∷ ns) [] axis d h = absurd (omega arith)
first-there (a ∷ b ∷ ns) (c ∷ []) axis d h = absurd (omega arith)
first-there (a ∷ b ∷ ns) (c ∷ e ∷ ms) zero d h = (refl, refl)
first-there (a ∷ b ∷ ns) (c ∷ e ∷ ms) (suc zero) d h = (refl, refl)
first-there (a ∷ b ∷ ns) (c ∷ e ∷ ms) (suc (suc axis)) d h = absurd (omega arith)

of-lists : (t : Tree) (ns ms : List Number) → transform_values (chars (codes "scale")) t ≡ map Some ns
    → transform_values (chars (codes "translate")) t ≡ map Some ms → AreThere t (maps_of t)
of-lists t ns ms e f = search (arith, first-there)

shown : (b : Bool) (t : Tree) (maps : List AffineMap) → maps_if b t ≡ Some maps → maps_of t ≡ maps
shown true t maps h = cc
shown false t maps h = absurd (cc h)

-- the maps of a header's parts, if it was judged for a box
pub if-there : (t : Tree) (parts : HeaderParts) → ArePartsOf t parts → IfSome parts.maps (λ maps. AreThere t maps)
if-there t parts are = search (arith, shown, of-lists)

-- ---- numbers of vertices

number-there : (axis : ℕ) (ws : List (Option ℤ)) → begins_whole (drop axis ws) ≡ true
    → Some (number_on axis ws) ≡ get_or ws axis None
number-there zero [] h = absurd (cc h)
number-there zero (None ∷ ws) h = absurd (cc h)
number-there zero (Some x ∷ ws) h = refl
number-there (suc axis) [] h = absurd (cc h)
number-there (suc axis) (w ∷ ws) h = number-there axis ws h

-- each vertex has a number on each axis
pub numbers-there : (axis : ℕ) → axis < 3 → (ts : List Tree) → list_all is_vertex ts ≡ true
    → map Some (map (number_on axis) (map vertex_of ts)) ≡ map (λ v. get_or v axis None) (map vertex_of ts)
numbers-there axis within [] h = refl
numbers-there axis within (t ∷ ts) h =
    search (arith, and_parts, number-there, three-begin, numbers-there axis within ts)
