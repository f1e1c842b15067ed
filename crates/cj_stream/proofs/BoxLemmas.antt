-- Of the numbers that a map brings to at most or at least an end, the least or the greatest is one.
use Rattle.cj_stream.proofs.Common.{AreThere, Bool, Box, IsSmall, List, None, Ordering, Some, Tree, [], alone, ap, arith, chars, codes, cond, coordinate, coordinate_by, false, get_or, inl, inr, int_le, int_lt, ints, is_in, items_of, length, list_any, map, meets, nat_tests, number_on, numbers_on, pos, range_of, refl, some_at_least, some_at_most, suc, sym, there_is, true, units_at, vertex_of, vertices_of, w64, widened, zero, ℕ, ℤ, ◌&&◌, ◌<◌, ◌^◌, ◌∙◌, ◌+◌, ◌∷◌, ◌≡◌, ◌≤◌, ◌≤ℤ◌, ◌⊎◌}
use Rattle.std.proofs.Common.{◌||◌, negsuc, ◌*ℤ◌, unsigned_abs, fold, int_cmp, is_le, is_ge, mul-le-mul_right}
use Rattle.std.specs.Int.{int_min, int_max, cast_signed, cast_unsigned}
use Rattle.std.proofs.lemmas.Int.{to_z-of_z, fits_signed_from_abs, fold-int_min_bounds, fold-int_max_bounds}
use borrow.Author.Differences.{up, down, product_is}
use Rattle.cj_decimal.specs.Meaning.Affine.{AffineMap, image}
use Rattle.cj_geometry.specs.Meaning.Numbers.{whole_of}
use Rattle.cj_geometry.proofs.Numbers.{whole-small}
use Rattle.cj_stream.specs.declared.query.extent.Range.{Range}

-- ---- a map keeps the order of numbers, or turns it

product_rises : (s : ℕ) (v w : ℤ) → v ≤ℤ w → (v *ℤ pos s) ≤ℤ (w *ℤ pos s)
product_rises s v w h =
    let below : up v + down w ≤ up w + down v = omega (arith, ints) in
    omega (
      arith,
      ints,
      product_is v (pos s),
      product_is w (pos s),
      mul-le-mul_right {m = up v + down w} {n = up w + down v} s below,
    )

product_falls : (s : ℕ) (v w : ℤ) → v ≤ℤ w → (w *ℤ negsuc s) ≤ℤ (v *ℤ negsuc s)
product_falls s v w h =
    let below : up v + down w ≤ up w + down v = omega (arith, ints) in
    omega (
      arith,
      ints,
      product_is v (negsuc s),
      product_is w (negsuc s),
      mul-le-mul_right {m = up v + down w} {n = up w + down v} (suc s) below,
    )

image_rises : (m : AffineMap) (s : ℕ) (v w : ℤ) → m.scale ≡ pos s → v ≤ℤ w → image m v ≤ℤ image m w
image_rises m s v w e h =
    let product : (v *ℤ m.scale) ≤ℤ (w *ℤ m.scale) = rw e (product_rises s v w h) in
    omega (arith, ints)

image_falls : (m : AffineMap) (s : ℕ) (v w : ℤ) → m.scale ≡ negsuc s → v ≤ℤ w → image m w ≤ℤ image m v
image_falls m s v w e h =
    let product : (w *ℤ m.scale) ≤ℤ (v *ℤ m.scale) = rw e (product_falls s v w h) in
    omega (arith, ints)

-- ---- a test that goes one way passes at an end, if it passes anywhere

-- what passes makes each smaller number pass, or each greater one
abbrev pub Falls : (ℤ → Bool) → Type 0
Falls test = (v w : ℤ) → v ≤ℤ w → test w ≡ true → test v ≡ true

abbrev pub Rises : (ℤ → Bool) → Type 0
Rises test = (v w : ℤ) → v ≤ℤ w → test v ≡ true → test w ≡ true

or_left : (a b : Bool) → (b ≡ true → a ≡ true) → (a || b) ≡ a
or_left true b h = refl
or_left false true h = sym (h refl)
or_left false false h = refl

or_right : (a b : Bool) → (a ≡ true → b ≡ true) → (a || b) ≡ b
or_right true b h = sym (h refl)
or_right false b h = refl

or_assoc : (a b c : Bool) → ((a || b) || c) ≡ (a || (b || c))
or_assoc true b c = refl
or_assoc false b c = refl

or_false : (a : Bool) → (a || false) ≡ a
or_false true = refl
or_false false = refl

module _ (test : ℤ → Bool) where
  less_of_two : Falls test → (x y : ℤ) → test (int_min x y) ≡ (test x || test y)
  less_of_two falls x y = by_order (int_lt y x) refl
    where
      by_order : (b : Bool) → int_lt y x ≡ b → test (cond b y x) ≡ (test x || test y)
      by_order true e = sym (or_right _ _ (falls y x (omega (arith, ints))))
      by_order false e = sym (or_left _ _ (falls x y (omega (arith, ints))))

  greater_of_two : Rises test → (x y : ℤ) → test (int_max x y) ≡ (test x || test y)
  greater_of_two rises x y = by_order (int_lt y x) refl
    where
      by_order : (b : Bool) → int_lt y x ≡ b → test (cond b x y) ≡ (test x || test y)
      by_order true e = sym (or_left _ _ (rises y x (omega (arith, ints))))
      by_order false e = sym (or_right _ _ (rises x y (omega (arith, ints))))

  least_decides : Falls test → (x : ℤ) (xs : List ℤ) → test (fold int_min x xs) ≡ list_any test (x ∷ xs)
  least_decides falls x [] = sym (or_false _)
  least_decides falls x (y ∷ ys) = least_decides falls (int_min x y) ys
      ∙ ap (λ b. b || list_any test ys) (less_of_two falls x y) ∙ or_assoc (test x) (test y) (list_any test ys)

  greatest_decides : Rises test → (x : ℤ) (xs : List ℤ) → test (fold int_max x xs) ≡ list_any test (x ∷ xs)
  greatest_decides rises x [] = sym (or_false _)
  greatest_decides rises x (y ∷ ys) = greatest_decides rises (int_max x y) ys
      ∙ ap (λ b. b || list_any test ys) (greater_of_two rises x y) ∙ or_assoc (test x) (test y) (list_any test ys)

  in_order : (x : ℤ) (xs : List ℤ) → fold int_min x xs ≤ℤ fold int_max x xs
  in_order x xs =
      omega (arith, ints, (fold-int_min_bounds x xs _ refl).0, (fold-int_max_bounds x xs _ refl).0)

  ends_decide : (Falls test ⊎ Rises test) → (x : ℤ) (xs : List ℤ) → (test (fold int_min x xs) || test (fold int_max x
      xs))
      ≡ list_any test (x ∷ xs)
  ends_decide (inl falls) x xs = or_left _ _ (falls _ _ (in_order x xs)) ∙ least_decides falls x _
  ends_decide (inr rises) x xs = or_right _ _ (rises _ _ (in_order x xs)) ∙ greatest_decides rises x _

-- ---- a map brings some number to an end, or past it, where it brings the least or the greatest there

one_way_below : (m : AffineMap) (end : ℤ) → Falls (λ v. int_le (image m v) end) ⊎ Rises (λ v. int_le (image m v) end)
one_way_below m end = by_sign m.scale refl
  where
    by_sign : (s : ℤ) → m.scale ≡ s → Falls (λ v. int_le (image m v) end) ⊎ Rises (λ v. int_le (image m v) end)
    by_sign (pos s) e = inl (λ v w h passes. let image_is = image_rises m s v w e h in grind (arith, ints))
    by_sign (negsuc s) e = inr (λ v w h passes. let image_is = image_falls m s v w e h in grind (arith, ints))

one_way_above : (m : AffineMap) (end : ℤ) → Falls (λ v. int_le end (image m v)) ⊎ Rises (λ v. int_le end (image m v))
one_way_above m end = by_sign m.scale refl
  where
    by_sign : (s : ℤ) → m.scale ≡ s → Falls (λ v. int_le end (image m v)) ⊎ Rises (λ v. int_le end (image m v))
    by_sign (pos s) e = inr (λ v w h passes. let image_is = image_rises m s v w e h in grind (arith, ints))
    by_sign (negsuc s) e = inl (λ v w h passes. let image_is = image_falls m s v w e h in grind (arith, ints))

pub at_most-ends : (m : AffineMap) (end x : ℤ) (xs : List ℤ)
    → (int_le (image m (fold int_min x xs)) end || int_le (image m (fold int_max x xs)) end)
    ≡ list_any (λ v. int_le (image m v) end) (x ∷ xs)
at_most-ends m end x xs = ends_decide _ (one_way_below m _) x _

pub at_least-ends : (m : AffineMap) (end x : ℤ) (xs : List ℤ)
    → (int_le end (image m (fold int_min x xs)) || int_le end (image m (fold int_max x xs)))
    ≡ list_any (λ v. int_le end (image m v)) (x ∷ xs)
at_least-ends m end x xs = ends_decide _ (one_way_above m _) x _

-- of any numbers that have a range
pub at_most-range : (m : AffineMap) (end : ℤ) (r : Range) (ns : List ℤ) → range_of ns ≡ Some r
    → (int_le (image m r.least) end || int_le (image m r.greatest) end) ≡ list_any (λ n. int_le (image m n) end) ns
at_most-range m end r [] e = cc
at_most-range m end r (n ∷ ns) e =
    let same : widened (alone n) ns ≡ r = cc e in
    rw (← same) (at_most-ends m _ n _)

pub at_least-range : (m : AffineMap) (end : ℤ) (r : Range) (ns : List ℤ) → range_of ns ≡ Some r
    → (int_le end (image m r.least) || int_le end (image m r.greatest)) ≡ list_any (λ n. int_le end (image m n)) ns
at_least-range m end r [] e = cc
at_least-range m end r (n ∷ ns) e =
    let same : widened (alone n) ns ≡ r = cc e in
    rw (← same) (at_least-ends m _ n _)

-- where it brings the first alone to both ends, it does so with all
or_more : (a b c d : Bool) → ((a || false) && (b || false)) ≡ true → ((a || c) && (b || d)) ≡ true
or_more true true c d h = refl
or_more true false c d h = cc
or_more false b c d h = cc

pub first_meets : (m : AffineMap) (low high n : ℤ) (ns : List ℤ) → meets m low high (n ∷ []) ≡ true
    → meets m low high (n ∷ ns) ≡ true
first_meets m low high n ns h = or_more _ _ _ _ h

-- ---- how the code asks whether a number is at most, or at least, at an end

le_said : (x y : ℤ) → is_le (int_cmp x y) ≡ int_le x y
le_said x y =
    grind (arith, nat_tests)

ge_said : (x y : ℤ) → is_ge (int_cmp x y) ≡ int_le y x
ge_said x y =
    grind (arith, nat_tests)

-- of a number that went to bits and back
pub at_most_said : (m : AffineMap) (v end : ℤ) (r : Ordering) → unsigned_abs v < 10 ^ 18
    → r ≡ int_cmp (image m (cast_signed w64 (cast_unsigned w64 v))) end → is_le r ≡ int_le (image m v) end
at_most_said m v end r small e =
    ap is_le (e ∙ ap (λ x. int_cmp (image m x) end) (to_z-of_z w64 v (fits_signed_from_abs w64 v (omega arith))))
    ∙ le_said (image m v) end

pub at_least_said : (m : AffineMap) (v end : ℤ) (r : Ordering) → unsigned_abs v < 10 ^ 18
    → r ≡ int_cmp (image m (cast_signed w64 (cast_unsigned w64 v))) end → is_ge r ≡ int_le end (image m v)
at_least_said m v end r small e =
    ap is_ge (e ∙ ap (λ x. int_cmp (image m x) end) (to_z-of_z w64 v (fits_signed_from_abs w64 v (omega arith))))
    ∙ ge_said (image m v) end

-- the second tells it where the first does not
pub or_second : (a b c d : Bool) → a ≡ b → b ≡ false → c ≡ d → c ≡ (a || d)
or_second a b c d e f g = rw (e, f) g

-- ---- the numbers of vertices

number_small : (axis : ℕ) (ts : List Tree) → unsigned_abs (number_on axis (map whole_of ts)) < 10 ^ 18
number_small axis [] = omega arith
number_small zero (t ∷ ts) = whole-small t
number_small (suc axis) (t ∷ ts) = number_small axis ts

least_small : (axis : ℕ) (n : ℤ) (ts : List Tree) → unsigned_abs n < 10 ^ 18
    → unsigned_abs (fold int_min n (map (number_on axis) (map vertex_of ts))) < 10 ^ 18
least_small axis n [] h = h
least_small axis n (t ∷ ts) h =
    least_small axis (int_min n (number_on axis (vertex_of t))) ts (of_two (int_lt (number_on axis (vertex_of t)) n))
  where
    of_two : (less : Bool) → unsigned_abs (cond less (number_on axis (vertex_of t)) n) < 10 ^ 18
    of_two true = number_small _ (items_of t)
    of_two false = h

greatest_small : (axis : ℕ) (n : ℤ) (ts : List Tree) → unsigned_abs n < 10 ^ 18
    → unsigned_abs (fold int_max n (map (number_on axis) (map vertex_of ts))) < 10 ^ 18
greatest_small axis n [] h = h
greatest_small axis n (t ∷ ts) h =
    greatest_small axis (int_max n (number_on axis (vertex_of t))) ts (of_two (int_lt (number_on axis (vertex_of t)) n))
  where
    of_two : (less : Bool) → unsigned_abs (cond less n (number_on axis (vertex_of t))) < 10 ^ 18
    of_two true = h
    of_two false = number_small _ (items_of t)

-- so their least and greatest are small
pub range_small : (axis : ℕ) (r : Range) (ts : List Tree) → range_of (map (number_on axis) (map vertex_of ts)) ≡ Some r
    → IsSmall r
range_small axis r [] e = cc
range_small axis r (t ∷ ts) e =
    let first = number_on axis (vertex_of t) in
    let same : widened (alone first) (map (number_on axis) (map vertex_of ts)) ≡ r = cc e in
    rw (← same) (record {
      least = least_small axis first ts (number_small axis (items_of t));
      greatest = greatest_small axis first ts (number_small axis (items_of t));
    })

-- and so is the first of them alone
pub first_small : (axis : ℕ) (n : ℤ) (ns : List ℤ) (ts : List Tree) → map (number_on axis) (map vertex_of ts) ≡ n ∷ ns
    → IsSmall (alone n)
first_small axis n ns [] e = cc
first_small axis n ns (t ∷ ts) e =
    let same : number_on axis (vertex_of t) ≡ n = cc e in
    rw (← same) (record { least = number_small axis (items_of t); greatest = number_small axis (items_of t) })

-- ---- the box, by the numbers on each axis

any-there : (test : ℤ → Bool) (m : AffineMap) (ns : List ℤ)
    → list_any (λ o. there_is test (coordinate_by o (Some m.scale) (Some m.shift))) (map Some ns)
    ≡ list_any (λ n. test (image m n)) ns
any-there test m [] = refl
any-there test m (n ∷ ns) = ap (λ b. test (image m n) || b) (any-there test m ns)

any-map : {A B : Type 0} (test : B → Bool) (f : A → B) (xs : List A)
    → list_any (λ x. test (f x)) xs ≡ list_any test (map f xs)
any-map test f [] = refl
any-map test f (x ∷ xs) = ap (λ b. test (f x) || b) (any-map test f xs)

-- the numbers of an axis are there: those of its map, and those of all vertices
pub record OnAxis (header t : Tree) (axis : ℕ) (m : AffineMap) : Type 0 where
  pub scale : units_at (chars (codes "scale")) header axis ≡ Some m.scale
  pub shift : units_at (chars (codes "translate")) header axis ≡ Some m.shift
  pub numbers : map Some (numbers_on axis t) ≡ map (λ v. get_or v axis None) (vertices_of t)

pub on-axis : (header t : Tree) (maps : List AffineMap) (axis : ℕ) (d : AffineMap) → AreThere header maps
    → axis < length maps → map Some (numbers_on axis t) ≡ map (λ v. get_or v axis None) (vertices_of t)
    → OnAxis header t axis (get_or maps axis d)
on-axis header t maps axis d there within numbers = record {
  scale = there.scale axis d within;
  shift = there.shift axis d within;
  numbers = numbers;
}

module _ (header t : Tree) (axis : ℕ) (m : AffineMap) (on : OnAxis header t axis m) where
  any-on : (test : ℤ → Bool) → list_any (λ v. there_is test (coordinate header axis v)) (vertices_of t)
      ≡ list_any (λ n. test (image m n)) (numbers_on axis t)
  any-on test =
      rw (on.scale, on.shift)
      (any-map (λ o. there_is test (coordinate_by o (Some m.scale) (Some m.shift))) (λ v. get_or v axis None)
      (vertices_of t)
      ∙ ap (list_any (λ o. there_is test (coordinate_by o (Some m.scale) (Some m.shift)))) (sym on.numbers)
      ∙ any-there test m (numbers_on axis t))

  axis-meets : (low high : ℤ) → (some_at_most header t axis high && some_at_least header t axis low)
      ≡ meets m low high (numbers_on axis t)
  axis-meets low high =
      ap (λ b. b && some_at_least header t axis low) (any-on _)
      ∙ ap (λ b. list_any (λ n. int_le (image m n) high) (numbers_on axis t) && b) (any-on _)

-- a box is met if it is met on the first axis, and on the other
pub box-first : (box : Box) (header t : Tree) (x : AffineMap) → OnAxis header t 0 x
    → is_in box header t ≡ (meets x box.min_x box.max_x (numbers_on 0 t)
    && (some_at_most header t 1 box.max_y && some_at_least header t 1 box.min_y))
box-first box header t x on =
    grind (arith, nat_tests, axis-meets)

pub box-numbers : (box : Box) (header t : Tree) (x y : AffineMap) → OnAxis header t 0 x → OnAxis header t 1 y
    → is_in box header t ≡ (meets x box.min_x box.max_x (numbers_on 0 t)
    && meets y box.min_y box.max_y (numbers_on 1 t))
box-numbers box header t x y on_x on_y =
    box-first _ _ t x on_x
    ∙ ap (λ b. meets x box.min_x box.max_x (numbers_on 0 t) && b)
    (axis-meets _ t 1 y on_y _ _)

-- two tests, of which the first is known
pub and_second : (a b c d : Bool) → a ≡ b → a ≡ true → c ≡ d → c ≡ (b && d)
and_second a b c d e f g = rw (← e, f) g

pub and_first : (a b d : Bool) → a ≡ b → a ≡ false → a ≡ (b && d)
and_first a b d e f = rw (← e, f)
