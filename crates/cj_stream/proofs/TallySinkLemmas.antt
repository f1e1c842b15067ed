-- Tallies of what a sink took, counts that go up, and small ones that are computed.
use Rattle.cj_stream.proofs.Common.{End, IsTallyOf, Item, LeavesNext, List, None, Number, Option, Puts, PutsPieces, Rules, Some, Tally, Took, Tree, Widens, [], ap, arith, beside, capped, chars, codes, cond, filter, filter-append, get_or, how_often, in_pieces, is_feature, is_header, is_some, last_or, length, length-append, lod_classes, map, nat_eq, nat_tests, never_fails, numbers_on, option_map, over_features, refl, replicate, stream_of, subst, suc, transform_values, type_numbers, zero, ℕ, ℤ, ◌++◌, ◌+◌, ◌-◌, ◌<◌, ◌^◌, ◌∙◌, ◌∷◌, ◌≡◌, ◌≤◌, Bool, RisesBy, cases_lt, class_count, class_of, eqb-false, false, flat_map, get_or_past, inl, inr, lod, map-append, member_of, object_geometries, own_classes, sym, true, HasRisen, code_points_after, first_code_point, first_width, lit<, text}
use Rattle.cj_stream.specs.TallySink.{no_tally, Shows, TalliesBy, Tallies, TalliesRun, TalliesPieces}
use Rattle.cj_stream.proofs.Ranges.{Widens-no, Widens-two}
use Rattle.std.proofs.Common.{set, length-set, eqb-true, get_or-set_same, get_or-set_other}
use Rattle.std.proofs.lemmas.Simd.{map-map}
use Rattle.cj_geometry.specs.Meaning.Geometry.{TemplateSource}
use lib.Utf8.{encode}
use Rattle.cj_stream.specs.CountRows.{RiseRows, ClassRows, LodRows, three_classes}
use Rattle.cj_stream.specs.QueryRows.{plain_header}

-- ---- tallies of what a sink took

-- ---- counts

-- how often a number is among two lists
pub how_often-append : (n : ℕ) (xs ys : List ℕ) → how_often n (xs ++ ys) ≡ how_often n xs + how_often n ys
how_often-append n xs ys = ap length (filter-append (nat_eq n) xs ys)
    ∙ length-append _ _

-- a count that each item raises by a number of its own is raised by their sum
module _ (count : Tally → ℕ) (own : Item → ℕ) (sum : List Item → ℕ)
    (none : sum [] ≡ 0) (some : (i : Item) (is : List Item) → sum (i ∷ is) ≡ own i + sum is)
    (step : (a : Tally) (i : Item) (b : Tally) → Tallies a i b → count a ≤ 2 ^ 64 - 1
    → count b ≡ capped (count a + own i)) where
  count-more : (a b : Tally) (is : List Item) → count a ≤ 2 ^ 64 - 1 → Took Tallies a is b
      → count b ≡ capped (count a + sum is)
  count-more a b [] fits took = omega (arith, ap count took)
  count-more a b (i ∷ is) fits took =
      let first = step a i took.0 took.1 fits in
      omega (arith, count-more took.0 b is (omega (arith, first)) took.2, some i is)

features-more : (a b : Tally) (is : List Item) → a.features ≤ 2 ^ 64 - 1 → Took Tallies a is b
    → b.features ≡ capped (a.features + length (filter is_feature is))
features-more = count-more _ (λ i. one i.header) _ refl
    (λ i is. split i.header i (filter is_feature is)) (λ a i b. step a i.header i.tree b)
  where
    one : Option Tree → ℕ
    one None = 0
    one (Some header) = 1

    split : (o : Option Tree) (i : Item) (rest : List Item)
        → length (cond (is_some o) (i ∷ rest) rest) ≡ one o + length rest
    split None i rest = omega arith
    split (Some header) i rest = omega arith

    step : (a : Tally) (o : Option Tree) (t : Tree) (b : Tally) → TalliesBy a o t b → a.features ≤ 2 ^ 64 - 1
        → b.features ≡ capped (a.features + one o)
    step a None t b h fits = omega arith
    step a (Some header) t b h fits = omega arith

-- how often a number is among what features have
module _ (part : Tree → Tree → List ℕ) (n : ℕ) where
  often : List Item → ℕ
  often is = how_often n (over_features part is)

  often-some : (i : Item) (is : List Item)
      → how_often n (over_features part (i ∷ is)) ≡ how_often n (beside part i.header i.tree)
      + how_often n (over_features part is)
  often-some i is = how_often-append n _ _

types-more : (n : ℕ) → n < 34 → (a b : Tally) (is : List Item) → get_or a.types n 0 ≤ 2 ^ 64 - 1 → Took Tallies a is b
    → get_or b.types n 0 ≡ capped (get_or a.types n 0 + how_often n (over_features (λ header t. type_numbers t) is))
types-more n inside =
    count-more _ (λ i. how_often n (beside (λ header t. type_numbers t) i.header i.tree))
    _ refl
    (often-some (λ header t. type_numbers t) n) (λ a i b. step a i.header i.tree b)
  where
    step : (a : Tally) (o : Option Tree) (t : Tree) (b : Tally) → TalliesBy a o t b → get_or a.types n 0 ≤ 2 ^ 64 - 1
        → get_or b.types n 0 ≡ capped (get_or a.types n 0 + how_often n (beside (λ header t. type_numbers t) o t))
    step a None t b h fits = omega (arith, ap (λ ns. get_or ns n 0) h.types)
    step a (Some header) t b h fits = h.types n inside

lods-more : (n : ℕ) → n < 6 → (a b : Tally) (is : List Item) → get_or a.lods n 0 ≤ 2 ^ 64 - 1 → Took Tallies a is b
    → get_or b.lods n 0 ≡ capped (get_or a.lods n 0 + how_often n (over_features lod_classes is))
lods-more n inside = count-more _ (λ i. how_often n (beside lod_classes i.header i.tree))
    _ refl
    (often-some lod_classes n) (λ a i b. step a i.header i.tree b)
  where
    step : (a : Tally) (o : Option Tree) (t : Tree) (b : Tally) → TalliesBy a o t b → get_or a.lods n 0 ≤ 2 ^ 64 - 1
        → get_or b.lods n 0 ≡ capped (get_or a.lods n 0 + how_often n (beside lod_classes o t))
    step a None t b h fits = omega (arith, ap (λ ns. get_or ns n 0) h.lods)
    step a (Some header) t b h fits = h.lods n inside

-- ---- ranges

ranges-more : (axis : ℕ) → axis < 3 → (a b : Tally) (is : List Item) → Took Tallies a is b
    → Widens (get_or a.ranges axis None) (over_features (λ header. numbers_on axis) is) (get_or b.ranges axis None)
ranges-more axis inside a b [] took =
    rw took
    (Widens-no _)
ranges-more axis inside a b (i ∷ is) took =
    Widens-two _ _
    _ _ _
    (step i.header i.tree took.0 took.1) (ranges-more axis inside took.0 b is took.2)
  where
    step : (o : Option Tree) (t : Tree) (m : Tally) → TalliesBy a o t m
        → Widens (get_or a.ranges axis None) (beside (λ header. numbers_on axis) o t) (get_or m.ranges axis None)
    step None t m h =
        rw h.ranges (Widens-no _)
    step (Some header) t m h = h.ranges axis inside

-- ---- the transform

-- the numbers after an item: those that a header shows, or else those before
abbrev IsSet : List ℕ → Option Tree → Tree → Option (List Number) → Option (List Number) → Type 0
IsSet name None t old new = Shows name t new
IsSet name (Some header) t old new = new ≡ old

module _ (name : List ℕ) (numbers : Tally → Option (List Number))
    (step : (a : Tally) (i : Item) (b : Tally) → Tallies a i b → IsSet name i.header i.tree (numbers a) (numbers b))
  where
    -- numbers that each header sets are those of the last one
    shown-more : (a b : Tally) (is : List Item) → Took Tallies a is b
        → option_map (map Some) (numbers b) ≡ last_or (option_map (map Some) (numbers a))
        (map (λ i. transform_values (chars name) i.tree) (filter is_header is))
    shown-more a b [] took = ap (λ t. option_map (map Some) (numbers t)) took
    shown-more a b (i ∷ is) took =
        grind (arith, nat_tests, shown-more took.0 b is took.2)

scale-set : (a : Tally) (o : Option Tree) (t : Tree) (b : Tally) → TalliesBy a o t b
    → IsSet (codes "scale") o t a.scale b.scale
scale-set a None t b h = h.scale
scale-set a (Some header) t b h = h.scale

translate-set : (a : Tally) (o : Option Tree) (t : Tree) (b : Tally) → TalliesBy a o t b
    → IsSet (codes "translate") o t a.translate b.translate
translate-set a None t b h = h.translate
translate-set a (Some header) t b h = h.translate

-- ---- all of it

-- what stands in an empty list of zeros, and of no ranges
zeros : (size n : ℕ) → n < size → get_or {A = ℕ} (replicate size 0) n 0 ≡ 0
zeros zero n b = refl
zeros (suc size) zero b = refl
zeros (suc size) (suc n) b = zeros size n (omega arith)

no_ranges : (size axis : ℕ) → get_or {A = Option (ℤ × ℤ)} (replicate size None) axis None ≡ None
no_ranges zero axis = refl
no_ranges (suc size) zero = refl
no_ranges (suc size) (suc axis) = no_ranges size axis

-- a new tally that took some items is theirs
tally-new : (t : Tally) (is : List Item) → Took Tallies no_tally is t → IsTallyOf is t
tally-new t is took = record {
  features = omega (arith, features-more no_tally t is (omega arith) took);
  types = λ n b. omega (arith, types-more n b no_tally t is (omega (arith, zeros 34 n b)) took, zeros 34 n b);
  lods = λ n b. omega (
    arith,
    lods-more n (omega (arith, b)) no_tally t is (omega (arith, zeros 6 n (omega (arith, b)))) took,
    zeros 6 n (omega (arith, b)),
  );
  ranges = λ axis b. subst
      (λ r. Widens r (over_features (λ header. numbers_on axis) is) (get_or t.ranges axis None))
      (no_ranges 3 _) (ranges-more _ b _ t _ took) [] refl;
  scale = shown-more (codes "scale") (λ s. s.scale) (λ a i b. scale-set a i.header i.tree b) no_tally t is took;
  translate =
      shown-more (codes "translate") (λ s. s.translate) (λ a i b. translate-set a i.header i.tree b) no_tally t is took;
}

tally-all : (start t : Tally) (is : List Item) → start ≡ no_tally → Took Tallies start is t → IsTallyOf is t
tally-all start t is new took = tally-new t _ (rw new at took)

never : (others : List Item) (m t : Tally) → LeavesNext (λ a i b. ⊥) others m t → ⊥
never [] m t k = k
never (i ∷ is) m t k = k

-- what a run has tallied, by its end
pub TalliesRun-puts : (rules : Rules) (r : List ℕ) (start t : Tally) (e : End) → start ≡ no_tally
    → Puts (never_fails Tallies) (stream_of rules r) e start t → TalliesRun (stream_of rules r) e t
TalliesRun-puts rules r start t x new h = grind (arith, nat_tests, tally-all, never)

-- what was tallied of pieces
pub TalliesPieces-puts : (rules : Rules) (pieces : List (List ℕ)) (n : ℕ) (start t : Tally) (e : End) → start ≡ no_tally
    → PutsPieces (never_fails Tallies) (in_pieces rules pieces n) e start t
    → TalliesPieces (in_pieces rules pieces n) e t
TalliesPieces-puts rules pieces n start t x new h = grind (arith, nat_tests, never, tally-all)

-- ---- counts that go up, number by number

-- some counts went up on the way to all numbers, and the numbers `left` are left
pub record Counting (size : ℕ) (old all counts left : List ℕ) : Type 0 where
  pub long : length counts ≡ size
  pub fit : (n : ℕ) → get_or counts n 0 < 2 ^ 64
  pub rises : (n : ℕ) → n < size
      → capped (get_or counts n 0 + how_often n left) ≡ capped (get_or old n 0 + how_often n all)

-- at the start all numbers are left
pub Counting-start : (size : ℕ) (counts all : List ℕ) → length counts ≡ size → ((n : ℕ) → get_or counts n 0 < 2 ^ 64)
    → Counting size counts all counts all
Counting-start size counts all long fit = record { long = long; fit = fit; rises = λ n b. refl }

-- at the end none is left
pub Counting-end : (size : ℕ) (old all counts : List ℕ) → Counting size old all counts [] → RisesBy size old all counts
Counting-end size old all counts h n b = omega (arith, h.fit n, h.rises n b)

-- a number of the list is counted: the count of its own goes up, and the others stay
module _ (counts : List ℕ) (k v : ℕ) (inside : k < length counts) where
  set-fit : v < 2 ^ 64 → ((n : ℕ) → get_or counts n 0 < 2 ^ 64) → (n : ℕ) (b : Bool) → nat_eq n k ≡ b
      → get_or (set counts k v) n 0 < 2 ^ 64
  set-fit small fit n true e =
      rw (eqb-true n k e) (omega (arith, get_or-set_same counts k v 0 inside, small))
  set-fit small fit n false e = omega (arith, get_or-set_other counts k n v 0 (eqb-false n k e), fit n)

  set-rises : v ≡ capped (get_or counts k 0 + 1) → (n : ℕ) (left : List ℕ) (total : ℕ) (b : Bool) → nat_eq n k ≡ b
      → capped (get_or counts n 0 + length (cond b (k ∷ filter (nat_eq n) left) (filter (nat_eq n) left))) ≡ total
      → capped (get_or (set counts k v) n 0 + how_often n left) ≡ total
  set-rises up n left total true e h =
      grind (arith, nat_tests, eqb-true, get_or-set_same)
  set-rises up n left total false e h =
      omega (arith, get_or-set_other counts k n v 0 (eqb-false n k e))

-- the first number that is left is counted
pub Counting-step : (size : ℕ) (old all counts : List ℕ) (k v : ℕ) (whole left : List ℕ) → k < size → whole ≡ k ∷ left
    → v ≡ capped (get_or counts k 0 + 1)
    → Counting size old all counts whole → Counting size old all (set counts k v) left
Counting-step size old all counts k v whole left inside first up h =
    let within : k < length counts = omega arith in
    record {
      long = length-set _ k v ∙ h.long;
      fit = λ n. set-fit _ k v within (omega arith) h.fit n _ refl;
      rises = λ n b. set-rises _ k v within up n _ _ _ refl
          (rw first at (h.rises n b));
    }

-- ---- some numbers at once

-- the first numbers that are left are counted
pub Counting-some : (size : ℕ) (old all counts new whole ks left : List ℕ) → length new ≡ size → whole ≡ ks ++ left
    → RisesBy size counts ks new → Counting size old all counts whole → Counting size old all new left
Counting-some size old all counts new whole ks left long first up h = record {
  long = long;
  fit = λ n.
      elim (cases_lt n size) [
        | inl below ↦ omega (arith, up n below)
        | inr above ↦ omega (arith, get_or_past new n 0 (omega (arith, long, above)))
      ];
  rises = λ n b.
      let before = rw first at (h.rises n b) in
      omega (arith, how_often-append n ks left, up n b);
}

-- ---- the classes of LoDs that geometries have themselves

pub own-first : (m : Tree × Tree) (whole rest : List (Tree × Tree)) → whole ≡ m ∷ rest
    → own_classes (flat_map object_geometries whole)
    ≡ own_classes (object_geometries m) ++ own_classes (flat_map object_geometries rest)
own-first m whole rest e =
    ap (λ ms. own_classes (flat_map object_geometries ms)) e
    ∙ map-append (λ g. class_of (member_of (chars (codes "lod")) g)) (object_geometries m)
    (flat_map object_geometries rest)

-- if no geometry is an instance, they are those of its LoDs
pub RisesBy-own : (templates : TemplateSource) (gs : List Tree) (old new : List ℕ)
    → map (lod templates) gs ≡ map (member_of (chars (codes "lod"))) gs → RisesBy class_count old (own_classes gs) new
    → RisesBy class_count old (map (λ g. class_of (lod templates g)) gs) new
RisesBy-own templates gs old new same =
    subst (λ ns. RisesBy class_count old ns new)
    (sym (map-map _ _ _) ∙ ap (map class_of) (sym same)
    ∙ map-map _ _ _)

-- ---- small counts, computed

no-rise : HasRisen 0 0 → ⊥
no-rise (inl less) = absurd (omega arith)
no-rise (inr full) = absurd (omega arith)

no-fall : HasRisen 1 0 → ⊥
no-fall (inl less) = absurd (omega arith)
no-fall (inr full) = absurd (omega arith)

pub rise : RiseRows
rise = (inl (lit< tt), no-rise, no-fall, inr (refl, refl))

pub classes : ClassRows
unfolding text code_points_after first_code_point first_width chars encode
classes = (refl, refl, refl, refl, refl, refl, refl)

-- ---- classes of a feature

its_classes : lod_classes plain_header three_classes ≡ 0 ∷ 4 ∷ 5 ∷ []
unfolding text code_points_after first_code_point first_width chars encode
its_classes = refl

abbrev CountsRow : List ℕ → List ℕ → Type 0
CountsRow ns new = RisesBy 6 (replicate 6 0) ns new

abbrev three_of : List ℕ
three_of = 0 ∷ 4 ∷ 5 ∷ []

counted : CountsRow three_of (1 ∷ 0 ∷ 0 ∷ 0 ∷ 1 ∷ 1 ∷ [])
counted x below = grind (arith, nat_tests)

differ : ◌≡◌ {A = ℕ} 0 1 → ⊥
differ e = absurd (omega arith)

pub lods : LodRows
lods = (
  its_classes,
  rw its_classes counted,
  (λ h. differ ((rw its_classes at h) 0 (lit< tt))),
  (λ h. differ ((rw its_classes at h) 4 (lit< tt))),
  (λ h. differ ((rw its_classes at h) 5 (lit< tt))),
)
