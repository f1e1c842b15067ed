-- Tokens that show the tree of a line: what is known of each.
use Rattle.cj_spans.proofs.Common.{◌≡◌, ℕ, zero, suc, ◌+◌, ◌-◌, ◌<◌, ◌≤◌, List, [], ◌∷◌, ◌++◌, length, drop, slice_get, slice_range, true, Some, refl, sym, ap, subst, arith, ◌∙◌, append_assoc, append-nil, nat_tests, merely, Token, Kind, Number, Array, Object, Atom, Tree, scalar, array, object, Items, no_items, item, Members, no_members, member, add_item, add_member, start_of, size, items_size, members_size, total_size, kind_by, held, past, atom_of, items_from, members_from, node, forest, IsScalar, IsNumber, byte, IsAtom, Value, atom, empty_array, full_array, empty_object, full_object, Padded, padded, LedItems, no_led, led, LedMembers, no_led_members, led_member, Named, named, Json, Span, span_at, preorder, items_preorder, members_preorder, spans_of, AreOf, AreWithin, AreRising, AreNested, AreNamed, AreSpelled, AreLinked, are_members, tree_at}
use Rattle.std.specs.List.{AllByRecursion as Each}
use Rattle.cj_spans.proofs.Lists.{each_more, each_append, items_preorder-add, members_preorder-add}
use Rattle.cj_spans.proofs.Verdicts.{json_only}
use Rattle.cj_spans.proofs.Forests.{atom_kind, Beyond, held_all, names_and_values, led_order, led_members_order, Shows, shows_more, shows_add_member, shows_led_members, shows_padded, padded_ends, named_ends, start-node}

-- ---- as many spans as the trees have values and names: none is left out

abbrev preorders : List Tree → List Span
preorders [] = []
preorders (t ∷ ts) = preorder t ++ preorders ts

pub size_some : (t : Tree) → 0 < size t
size_some (scalar k a) = omega arith
size_some _ = omega arith

sizes_none : (ts : List Tree) → total_size ts ≡ 0 → preorders ts ≡ []
sizes_none [] h = refl
sizes_none (t ∷ ts) h = absurd (omega (arith, size_some t))

items_none : (ts : Items) → items_size ts ≡ 0 → items_preorder ts ≡ []
items_none no_items h = refl
items_none (item t ts) h = absurd (omega (arith, size_some t))

members_none : (ms : Members) → members_size ms ≡ 0 → members_preorder ms ≡ []
members_none no_members h = refl
members_none (member n t ms) h = absurd (omega arith)

alone : (n : Tree) → size n ≡ 1 → preorder n ≡ span_at (atom_of n).start (atom_of n).stop ∷ []
alone (scalar k a) h = refl
alone (array i j ts) h = cc (items_none ts (omega arith))
alone (object i j ms) h = cc (members_none ms (omega arith))

items_size-from : (ts : List Tree) → items_size (items_from ts) ≡ total_size ts
items_size-from [] = refl
items_size-from (t ∷ ts) = cc (items_size-from ts)

items_preorder-from : (ts : List Tree) → items_preorder (items_from ts) ≡ preorders ts
items_preorder-from [] = refl
items_preorder-from (t ∷ ts) = cc (items_preorder-from ts)

members_small : (ts : List Tree) → members_size (members_from ts) ≤ total_size ts
members_small (n ∷ t ∷ ts) = omega (arith, size_some n, members_small ts)
members_small _ = omega arith

members_same : (ts : List Tree) → members_size (members_from ts) ≡ total_size ts
    → members_preorder (members_from ts) ≡ preorders ts
members_same [] h = refl
members_same (n ∷ []) h = absurd (omega (arith, size_some n))
members_same (n ∷ t ∷ ts) h =
    let s = size_some n in
    let l = members_small ts in
    let e : size n ≡ 1 = omega arith in
    let f : members_size (members_from ts) ≡ total_size ts = omega arith in
    cc (members_same ts f, alone n e)

pub node_small : (b : List ℕ) (k : Kind) (i j : ℕ) (ts : List Tree) → size (node b k i j ts) ≤ suc (total_size ts)
node_small b Array i j ts = omega (arith, items_size-from ts)
node_small b Object i j ts = omega (arith, members_small ts)
node_small b _ i j ts = omega arith

node_same : (b : List ℕ) (k : Kind) (i j : ℕ) (ts : List Tree) → size (node b k i j ts) ≡ suc (total_size ts)
    → preorder (node b k i j ts) ≡ span_at i j ∷ preorders ts
node_same b Array i j ts h = cc (items_preorder-from ts)
node_same b Object i j ts h = cc (members_same ts (omega arith))
node_same b _ i j ts h = cc (sizes_none ts (omega arith))

pub sizes-append : (ts us : List Tree) → total_size (ts ++ us) ≡ total_size ts + total_size us
sizes-append [] us = omega arith
sizes-append (t ∷ ts) us = omega (arith, sizes-append ts us)

preorders-append : (ts us : List Tree) → preorders (ts ++ us) ≡ preorders ts ++ preorders us
preorders-append [] us = refl
preorders-append (t ∷ ts) us = cc (preorders-append ts us, append_assoc (preorder t) (preorders ts) (preorders us))

held-past_on : (t : Tree) (ts : List Tree) (j : ℕ) → start_of t < j
    → held j (t ∷ ts) ++ past j (t ∷ ts) ≡ t ∷ (held j ts ++ past j ts)
held-past_on t ts j h = grind (arith, nat_tests)

held-past_here : (t : Tree) (ts : List Tree) (j : ℕ) → j ≤ start_of t → held j (t ∷ ts) ++ past j (t ∷ ts) ≡ t ∷ ts
held-past_here t ts j h = grind (arith, nat_tests)

held-past : (j : ℕ) (ts : List Tree) → held j ts ++ past j ts ≡ ts
held-past j [] = refl
held-past j (t ∷ ts) = grind (arith, held-past_on, held-past_here, held-past j ts)

pub held_sizes : (j : ℕ) (ts : List Tree) → total_size (held j ts) + total_size (past j ts) ≡ total_size ts
held_sizes j ts = cc (sizes-append (held j ts) (past j ts), held-past j ts)

pub forest_small : (b : List ℕ) (ss : List Span) → total_size (forest b ss) ≤ length ss
unfolding forest
forest_small b [] = omega arith
forest_small b (s ∷ ss) = grind (arith, held_sizes, node_small, forest_small b ss, s.start)

forest_same : (b : List ℕ) (ss : List Span) → total_size (forest b ss) ≡ length ss → preorders (forest b ss) ≡ ss
unfolding forest
forest_same b [] h = refl
forest_same b (s ∷ ss) h =
    let l = forest_small b ss in
    let e = held_sizes s.stop (forest b ss) in
    let n = node_small b (kind_by (byte b s.start)) s.start s.stop (held s.stop (forest b ss)) in
    let f : size (node b (kind_by (byte b s.start)) s.start s.stop (held s.stop (forest b ss)))
    ≡ suc (total_size (held s.stop (forest b ss))) = omega arith in
    let g : total_size (forest b ss) ≡ length ss = omega arith in
    cc (
      node_same b (kind_by (byte b s.start)) s.start s.stop (held s.stop (forest b ss)) f,
      preorders-append (held
          s.stop (forest b ss)) (past s.stop (forest b ss)),
      held-past s.stop (forest b ss),
      forest_same b ss g,
    )

pub all_shown : (b : List ℕ) (ss : List Span) (t : Tree) → forest b ss ≡ t ∷ [] → length ss ≡ size t → preorder t ≡ ss
all_shown b ss t h e = let f : total_size (forest b ss) ≡ length ss = ap total_size h ∙ omega arith in
    cc (append-nil (preorder t), forest_same b ss f)

-- ---- what is known of each span

-- what starts before the place stops before it
abbrev StopsBy : ℕ → Span → Type 0
StopsBy j s = s.start < j → s.stop ≤ j

abbrev From : ℕ → Span → Type 0
From j s = j ≤ s.start

abbrev Between : ℕ → ℕ → Span → Type 0
Between i j s = (i ≤ s.start) × (s.stop ≤ j)

-- the span s of the line b, with those after it
record IsGood (b : List ℕ) (s : Span) (ss : List Span) : Type 0 where
  order : s.start < s.stop
  within : s.stop ≤ length b
  stops : Each (StopsBy s.stop) ss
  named : byte b s.start ≡ 123 → are_members (held s.stop (forest b ss)) ≡ true
  numeral : kind_by (byte b s.start) ≡ Number → IsNumber (slice_range b s.start s.stop)
  closed : byte b s.start ≡ 91 → byte b (s.stop - 1) ≡ 93
  later : Each (From (suc s.start)) ss

abbrev AllGood : List ℕ → List Span → Type 0
AllGood b [] = Unit {0}
AllGood b (s ∷ ss) = IsGood b s ss × AllGood b ss

-- spans between two places, good before any that are good and start later
record Good (b : List ℕ) (i j : ℕ) (ss : List Span) : Type 0 where
  between : Each (Between i j) ss
  good : (rest : List Span) → Each (From j) rest → AllGood b rest → AllGood b (ss ++ rest)

good_none : (b : List ℕ) (i : ℕ) → Good b i i []
good_none b i = record { between = tt; good = λ rest f g. g }

good_more : {b : List ℕ} {i j : ℕ} (k l : ℕ) {ss : List Span} → k ≤ i → j ≤ l → Good b i j ss → Good b k l ss
good_more {i} {j} k l {ss} f g h = grind (arith, each_more, h.between, h.good)

good_both : {b : List ℕ} {i j k : ℕ} {ss us : List Span} → i ≤ j → j ≤ k → Good b i j ss → Good b j k us
    → Good b i k (ss ++ us)
good_both {b} {i} {j} {k} {ss} {us} f g h q = record {
  between = each_append (Between i k) ss us
      (each_more (Between i j) (Between i k) (λ s b. omega arith) ss h.between)
      (each_more (Between j k) (Between i k) (λ s b. omega arith) us q.between);
  good = λ rest m n.
      subst (AllGood b) (sym (append_assoc ss us rest)) (h.good (us ++ rest) (each_append (From j) us rest
      (each_more (Between j k) (From j) (λ s b. b.0) us q.between)
      (each_more (From k) (From j) (λ s o. omega arith) rest m)) (q.good rest m n));
}

-- a span over others
good_over : {b : List ℕ} (i : ℕ) {j : ℕ} {ss : List Span} → i < j → j ≤ length b → Good b (suc i) j ss
    → (kind_by (byte b i) ≡ Number → IsNumber (slice_range b i j)) → (byte b i ≡ 91 → byte b (j - 1) ≡ 93)
    → ((rest : List Span) → Each (From j) rest → byte b i ≡ 123 → are_members (held j (forest b (ss ++ rest))) ≡ true)
    → Good b i j (span_at i j ∷ ss)
good_over i {j} {ss} o l h numeral closed n = grind (arith, each_more, each_append, named, h.between, h.good)

-- ---- the grammar

byte_within : (b : List ℕ) (i c : ℕ) → byte b i ≡ suc c → i < length b
byte_within [] i c h = cc
byte_within (x ∷ b) zero c h = omega arith
byte_within (x ∷ b) (suc i) c h = omega (arith, byte_within b i c h)

not_object : (k : Kind) (s : List ℕ) → IsScalar k s → k ≡ Object → ⊥
not_object Object s h e = h
not_object _ s h e = cc

not_array : (k : Kind) (s : List ℕ) → IsScalar k s → k ≡ Array → ⊥
not_array Array s h e = h
not_array _ s h e = cc

atom_numeral : {k : Kind} (s : List ℕ) → IsScalar k s → k ≡ Number → IsNumber s
atom_numeral s h e = rw e at h

-- what a bracket or a brace begins is no number
no_numeral : (b : List ℕ) (i : ℕ) {c : ℕ} (j : ℕ) → byte b i ≡ c → (kind_by c ≡ Number → ⊥)
    → kind_by (byte b i) ≡ Number
    → IsNumber (slice_range b i j)
no_numeral b i j h n e = absurd (n (sym (ap kind_by h) ∙ e))

closes : (b : List ℕ) (j : ℕ) {c : ℕ} → byte b j ≡ c → byte b (suc j - 1) ≡ c
closes b j h = let e : suc j - 1 ≡ j = omega arith in cc

good_atom : {b : List ℕ} {k : Kind} {i j : ℕ} → IsAtom b k i j → Good b i j (span_at i j ∷ [])
good_atom {b} {k} {i} {j} w =
    let o = w.order in
    good_over i {ss = []} o w.within (record { between = tt; good = λ rest f g. g })
    (λ e. atom_numeral (slice_range b i j) w.spelled (sym (atom_kind w) ∙ e))
    (λ e. absurd (not_array k (slice_range b i j) w.spelled (sym (atom_kind w) ∙ ap kind_by e)))
    (λ rest f e. absurd (not_object k (slice_range b i j) w.spelled (sym (atom_kind w) ∙ ap kind_by e)))

good_named : {b : List ℕ} {i j : ℕ} {n : Atom} → Named b i j n → Good b i j (span_at n.start n.stop ∷ [])
good_named (named i j k l w x y c) = let f = w.order in good_more i (suc l) f (omega arith) (good_atom x)

good_add : {b : List ℕ} {i j k : ℕ} (us : Items) (u : Tree) → i ≤ j → j ≤ k → Good b i j (items_preorder us)
    → Good b j k (preorder u) → Good b i k (items_preorder (add_item us u))
good_add {b} {i} {k} us u f g h q = subst (Good b i k) (sym (items_preorder-add us u)) (good_both f g h q)

good_add_member : {b : List ℕ} {i j k l : ℕ} (us : Members) (n : Atom) (u : Tree) → i ≤ j → j ≤ k → k ≤ l
    → Good b i j (members_preorder us) → Good b j k (span_at n.start n.stop ∷ []) → Good b k l (preorder u)
    → Good b i l (members_preorder (add_member us n u))
good_add_member {b} {i} {l} us n u f g h p q r =
    subst (Good b i l) (sym (members_preorder-add us n u)) (good_both f (omega arith) p (good_both g h q r))

alternate : (ms : Members) → are_members (names_and_values ms) ≡ true
alternate no_members = refl
alternate (member n t ms) = alternate ms

from_beyond : (b : List ℕ) (j : ℕ) (ss : List Span) → Each (From j) ss → Beyond j (forest b ss)
unfolding forest
from_beyond b j [] h = tt
from_beyond b j (s ∷ ss) h = grind (arith, start-node, s.start)

-- the members of an object, before what starts later
alternate_held : (b : List ℕ) (j : ℕ) (ms : Members) (rest : List Span)
    → Shows b j (members_preorder ms) (names_and_values ms) → Each (From j) rest
    → are_members (held j (forest b (members_preorder ms ++ rest))) ≡ true
alternate_held b j ms rest s f = grind (arith, from_beyond, held_all, alternate, s.shows, s.all)

mutual
  good_value : {b : List ℕ} {i j : ℕ} {t : Tree} → Value b i j t → Good b i j (preorder t)
  good_value (atom k i j w) = good_atom w
  good_value {b} (empty_array i j o w c) =
      let l = byte_within b j 92 c in
      good_over i (omega arith) l
      (good_more (suc i) (suc j) (omega arith) (omega arith) (good_none b (suc i)))
      (no_numeral b i (suc j) o (λ e. cc)) (λ e. closes b j c) (λ rest f e. absurd (omega arith))
  good_value {b} (full_array i j k us u o l p c) =
      let a = led_order l in let q = padded_ends p in let m = byte_within b k 92 c in
      good_over i (omega arith) m
      (good_more (suc i) (suc k) (omega arith) (omega arith)
      (good_add us u a q (good_led l) (good_padded p))) (no_numeral b i (suc k) o (λ e. cc))
      (λ e. closes b k c) (λ rest f e. absurd (omega arith))
  good_value {b} (empty_object i j o w c) =
      let h = w.order in let l = byte_within b j 124 c in
      good_over i (omega arith) l
      (good_more (suc i) (suc j) (omega arith) (omega arith) (good_none b (suc i)))
      (no_numeral b i (suc j) o (λ e. cc)) (λ e. absurd (omega arith))
      (λ rest f e. alternate_held b (suc j) no_members rest (record { all = tt; shows = λ rest h. refl }) f)
  good_value {b} (full_object i j k l us n u o ld nm p c) =
      let a = led_members_order ld in let q = padded_ends p in let r = named_ends nm in let m = byte_within b l 124 c in
      let v = add_member us n u in
      good_over i (omega arith) m
      (good_more (suc i) (suc l) (omega arith) (omega arith)
      (good_add_member us n u a r q (good_led_members ld) (good_named nm) (good_padded p)))
      (no_numeral b i (suc l) o (λ e. cc)) (λ e. absurd (omega arith))
      (λ rest f e. alternate_held b (suc l) v rest
      (shows_more (suc l) (omega arith) (shows_add_member ld nm p (shows_led_members ld) (shows_padded p)))
      f)

  good_padded : {b : List ℕ} {i j : ℕ} {t : Tree} → Padded b i j t → Good b i j (preorder t)
  good_padded (padded i j k l t w v x) = good_more i l w.order x.order (good_value v)

  good_led : {b : List ℕ} {i j : ℕ} {us : Items} → LedItems b i j us → Good b i j (items_preorder us)
  good_led {b} (no_led i) = good_none b i
  good_led (led i j k us u l p c) =
      let a = led_order l in let q = padded_ends p in
      good_more i (suc k) (omega arith) (omega arith)
      (good_add us u a q (good_led l) (good_padded p))

  good_led_members : {b : List ℕ} {i j : ℕ} {us : Members} → LedMembers b i j us → Good b i j (members_preorder us)
  good_led_members {b} (no_led_members i) = good_none b i
  good_led_members (led_member i j k l us n u ld nm p c) =
      let a = led_members_order ld in let q = padded_ends p in let r = named_ends nm in
      good_more i (suc l) (omega arith) (omega arith)
      (good_add_member us n u a r q (good_led_members ld) (good_named nm) (good_padded p))

json_good : (b : List ℕ) (t : Tree) → Json b t → AllGood b (preorder t)
json_good b t p = subst (AllGood b) (append-nil (preorder t)) ((good_padded p).good [] tt tt)

-- ---- what is known of each token

good_at : (b : List ℕ) (ts : List Token) (k : ℕ) (t : Token) → AllGood b (spans_of ts) → slice_get ts k ≡ Some t
    → IsGood b (span_at t.start t.stop) (drop (suc k) (spans_of ts))
good_at b [] k t g h = cc
good_at b (u ∷ ts) zero t g h = let e : u ≡ t = cc in rw e at g.0
good_at b (u ∷ ts) (suc k) t g h = good_at b ts k t g.1 h

stops_at : (ts : List Token) (j n i : ℕ) (u : Token) → Each (StopsBy j) (drop n (spans_of ts)) → n ≤ i
    → slice_get ts i ≡ Some u → u.start < j → u.stop ≤ j
stops_at [] j n i u s l h m = cc
stops_at (v ∷ ts) j zero zero u s l h m = grind arith
stops_at (v ∷ ts) j zero (suc i) u s l h m = stops_at ts j zero i u s.1 (omega arith) h m
stops_at (v ∷ ts) j (suc n) zero u s l h m = absurd (omega arith)
stops_at (v ∷ ts) j (suc n) (suc i) u s l h m = stops_at ts j n i u s (omega arith) h m

are_within : (b : List ℕ) (ts : List Token) → AllGood b (spans_of ts) → AreWithin b ts
are_within b ts g = λ k t h. let w = good_at b ts k t g h in (w.order, w.within)

are_nested : (b : List ℕ) (ts : List Token) → AllGood b (spans_of ts) → AreNested ts
are_nested b ts g = λ k t h i u l m n. stops_at ts t.stop (suc k) i u (good_at b ts k t g h).stops (omega arith) m n

from_at : (ts : List Token) (j n k : ℕ) (u : Token) → Each (From j) (drop n (spans_of ts)) → n ≤ k
    → slice_get ts k ≡ Some u → j ≤ u.start
from_at [] j n k u s l h = cc
from_at (v ∷ ts) j zero zero u s l h = grind arith
from_at (v ∷ ts) j zero (suc k) u s l h = from_at ts j zero k u s.1 (omega arith) h
from_at (v ∷ ts) j (suc n) zero u s l h = absurd (omega arith)
from_at (v ∷ ts) j (suc n) (suc k) u s l h = from_at ts j n k u s (omega arith) h

are_rising : (b : List ℕ) (ts : List Token) → AllGood b (spans_of ts) → AreRising ts
are_rising b ts g = λ i k t u l h m. let o =
    from_at ts (suc t.start) (suc i) k u (good_at b ts i t g h).later (omega arith) m in omega arith

are_named : (b : List ℕ) (ts : List Token) → AllGood b (spans_of ts) → AreNamed b ts
are_named b ts g = grind (arith, good_at)

are_spelled : (b : List ℕ) (ts : List Token) → AllGood b (spans_of ts) → AreSpelled b ts
are_spelled b ts g = λ k t h. let w = good_at b ts k t g h in (λ e. merely (w.numeral e), w.closed)

-- what a view of the tokens of a line needs
pub record Known (b : List ℕ) (ts : List Token) : Type 0 where
  pub within : AreWithin b ts
  pub rising : AreRising ts
  pub nested : AreNested ts
  pub named : AreNamed b ts
  pub spelled : AreSpelled b ts
  pub linked : AreLinked ts
  pub some : 0 < length ts

pub length-spans_of : (ts : List Token) → length (spans_of ts) ≡ length ts
length-spans_of [] = refl
length-spans_of (t ∷ ts) = ap suc (length-spans_of ts)

pub known : (b : List ℕ) (ts : List Token) → AreOf b ts → Known b ts
known b ts a =
    let e = all_shown b (spans_of ts) a.tree a.shown (length-spans_of ts ∙ a.count) in
    let g = subst (AllGood b) e (json_good b a.tree a.json) in
    let s = size_some a.tree in
    record {
      within = are_within b ts g;
      rising = are_rising b ts g;
      nested = are_nested b ts g;
      named = are_named b ts g;
      spelled = are_spelled b ts g;
      linked = a.linked;
      some = omega arith;
    }

first_shown : (b : List ℕ) (ss : List Span) (t : Tree) → forest b ss ≡ t ∷ [] → tree_at b ss 0 ≡ t
unfolding forest tree_at
first_shown b [] t h = cc
first_shown b (s ∷ ss) t h = cc

-- the tree that the tokens show is the line's
pub one_tree : {b : List ℕ} {ts : List Token} → AreOf b ts → (t : Tree) → Json b t → tree_at b (spans_of ts) 0 ≡ t
one_tree {b} {ts} a t j = grind (arith, first_shown, json_only, a.tree, a.shown, a.json)

pub its_tree : {b : List ℕ} {ts : List Token} → AreOf b ts → Json b (tree_at b (spans_of ts) 0)
its_tree {b} {ts} a = grind (arith, first_shown, a.tree, a.shown, a.json)
