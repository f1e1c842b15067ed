-- Walks over the tokens of a source, and what a node shows of its parts.
use Rattle.cj_spans.proofs.Common.{◌≡◌, ℕ, zero, suc, ◌+◌, ◌-◌, ◌%◌, ◌^◌, ◌<◌, ◌≤◌, List, [], ◌∷◌, length, take, drop, slice_get, true, inl, inr, Some, refl, sym, ap, subst, arith, ◌∙◌, second_so, cases_lt, length-drop, drop-drop, slice_get_within, Token, Kind, Null, Array, Object, Tree, size, total_size, kind_by, held, past, node, forest, byte, Span, spans_of, kind_of, items_of, members_of, AreWhole, ShowMembers, before, is_name, are_members, link_of, shown_between, items_end, members_end, AreSized, tree_at, pairs_of, common_steps}
use Rattle.cj_spans.specs.declared.node.Source.{Source}
use Rattle.cj_spans.proofs.Spellings.{some_same}
use Rattle.cj_spans.proofs.Views.{before_length, below, below_at, kind-node, kind_object, list-items_from, list-members_from, length-forest, length-pairs}
use Rattle.cj_spans.proofs.Sizes.{full_sized, before_walked}
use Rattle.cj_spans.proofs.Scanned.{forest_small, length-spans_of}
use Rattle.cj_spans.proofs.Walks.{stops_from, spans_of-drop, taken, held_more, past_more, drop_next, before_drop, before-less, starts_before, kind_string, name_node, name_first, lone_name}

-- ---- what a node shows of its parts

items-node : (b : List ℕ) (k : Kind) (i j l : ℕ) {ts : List Tree} (shown : ℕ → List Tree) → shown l ≡ ts → shown 0 ≡ []
    → shown (items_end k l) ≡ items_of (node b k i j ts)
items-node b Array i j l {ts} shown e z = e ∙ sym (list-items_from ts)
items-node b _ i j l shown e z = z

members-node : (b : List ℕ) (k : Kind) (i j l : ℕ) {ts : List Tree} (shown : ℕ → List Tree)
    → (k ≡ Object → are_members ts ≡ true) → shown l ≡ ts → shown 0 ≡ []
    → pairs_of (shown (members_end k l)) ≡ members_of (node b k i j ts)
members-node b Object i j l {ts} shown h e z = cc (list-members_from ts (h refl))
members-node b _ i j l shown h e z = cc

named-node : (k : Kind) (l : ℕ) {ts : List Tree} (shown : ℕ → List Tree) → (k ≡ Object → are_members ts ≡ true)
    → shown l ≡ ts → shown 0 ≡ [] → are_members (shown (members_end k l)) ≡ true
named-node Object l shown h e z = cc (h refl)
named-node _ l shown h e z = cc

whole_none : (ts : List Token) (k : ℕ) → AreWhole ts k 0
whole_none ts k = grind arith

whole_items : (ts : List Token) (k l : ℕ) (r : Kind) → AreWhole ts k l → AreWhole ts k (items_end r l)
whole_items ts k l Array w = w
whole_items ts k l _ w = whole_none ts k

whole_members : (ts : List Token) (k l : ℕ) (r : Kind) → AreWhole ts k l → AreWhole ts k (members_end r l)
whole_members ts k l Object w = w
whole_members ts k l _ w = whole_none ts k

items_end_low : (r : Kind) (l : ℕ) → items_end r l ≤ l
items_end_low Null l = omega arith
items_end_low _ l = omega arith

-- the token at k links to r
abbrev pub LinksTo : List Token → ℕ → ℕ → Type 0
LinksTo ts k r = (t : Token) → slice_get ts k ≡ Some t → r ≡ k + 1 + before t.stop (drop (k + 1) ts)

-- ---- walks over the tokens of a source

module _ (source : Source) where
  abbrev b : List ℕ
  b = source.line.now

  abbrev ts : List Token
  ts = source.tokens.now

  -- the tree of the k-th token, and the trees of those from the k-th to the n-th
  abbrev tree_of : ℕ → Tree
  tree_of k = tree_at b (spans_of ts) k

  abbrev shown : ℕ → ℕ → List Tree
  shown k n = shown_between b ts k n

  -- to what the token t at k links
  abbrev end_of : ℕ → Token → ℕ
  end_of k t = k + 1 + before t.stop (drop (k + 1) ts)

  sized : AreSized b ts
  sized = grind (arith, full_sized)

  pub shown_none : (k n : ℕ) → n ≤ k → shown k n ≡ []
  unfolding forest
  shown_none k n h = grind arith

  -- the parts of a token's tree are what the tokens up to its link show
  shown_parts : (k : ℕ) {r : ℕ} (t : Token) → slice_get ts k ≡ Some t → r ≡ end_of k t
      → shown (k + 1) r ≡ held t.stop (forest b (drop (k + 1) (spans_of ts)))
  shown_parts k {r} t h e =
      let P : List Span → Type 0 = λ ss. forest b (take (r - (k + 1)) ss) ≡ held t.stop (forest b ss) in
      subst P (spans_of-drop (k + 1) ts) (taken b (drop (k + 1) ts) t.stop (r - (k + 1))
      (stops_from ts (k + 1) t.stop (source.nested k t h)) (omega arith))

  -- one step of a walk
  walk_on : (k n : ℕ) {r : ℕ} (t : Token) → slice_get ts k ≡ Some t → r ≡ end_of k t → r ≤ n
      → shown k n ≡ tree_of k ∷ shown r n
  unfolding forest
  walk_on k n {r} t h e l =
      let us = drop (k + 1) ts in
      let s = stops_from ts (k + 1) t.stop (source.nested k t h) in
      let ss = drop (k + 1) (spans_of ts) in
      let m = before t.stop us in
      let p = n - (k + 1) in
      let f : n - k ≡ suc p = omega arith in
      let parts : held t.stop (forest b (take p ss)) ≡ held t.stop (forest b ss) =
      subst (λ z. held t.stop (forest b (take p z)) ≡ held t.stop (forest b z)) (spans_of-drop (k + 1) ts)
      (held_more b us t.stop p s (omega arith)) in
      let rest : past t.stop (forest b (take p ss)) ≡ forest b (take (n - r) (drop m ss)) =
      subst (λ z. past t.stop (forest b (take p z)) ≡ forest b (take (n - r) (drop m z))) (spans_of-drop (k + 1) ts)
      (past_more b us t.stop p m (n - r) s refl (omega arith)) in
      ap (λ q. forest b (take q (drop k (spans_of ts)))) f ∙ ap (λ z. forest b (take (suc p) z)) (drop_next ts k t h)
      ∙ (λ i. node b (kind_by (byte b t.start)) t.start t.stop (parts i) ∷ rest i)
      ∙ (λ i. sym (below_at b ts k t h).tree i ∷ forest b (take (n - r) (drop-drop m (k + 1) (spans_of ts) i)))
      ∙ ap (λ q. tree_of k ∷ forest b (take (n - r) (drop q (spans_of ts)))) (sym e)

  -- ---- tokens that are whole

  -- a part of a token's tree links no further than the token
  part_link : (k : ℕ) {r : ℕ} (i : ℕ) (t u : Token) → slice_get ts k ≡ Some t → r ≡ end_of k t → k + 1 ≤ i → i < r
      → slice_get ts i ≡ Some u → link_of u ≤ r
  part_link k {r} i t u h e o l g =
      let j = t.stop in
      let n = i - (k + 1) in
      let at : k + 1 + n ≡ i = omega arith in
      let left = before_drop j n (drop (k + 1) ts) (omega arith) in
      let here : before j (drop n (drop (k + 1) ts)) ≡ before j (drop i ts) = ap (before j) (drop-drop n (k + 1) ts)
      ∙ ap (λ x. before j (drop x ts)) at in
      let s = starts_before ts j i u g (omega arith) in
      let next = before_walked ts j r i u g s (omega arith) in
      omega (arith, before-less u.stop j (drop (i + 1) ts) (source.nested k t h i u o g s), source.linked i u g)

  whole_parts : (k : ℕ) {r : ℕ} (t : Token) → slice_get ts k ≡ Some t → r ≡ end_of k t → AreWhole ts (k + 1) r
  whole_parts k t h e = (
    omega (arith, before_length t.stop (drop (k + 1) ts), length-drop (k + 1) ts, slice_get_within ts k t h),
    λ i u o l g. part_link k i t u h e o l g,
  )

  pub whole_later : (k m n : ℕ) → k ≤ m → AreWhole ts k n → AreWhole ts m n
  whole_later k m n l w = grind (arith, w.0, w.1)

  -- at a name: its value stands right behind it
  pub record AtName (k n : ℕ) : Type 0 where
    pub value : k + 1 < n
    pub shown_on : shown k n ≡ tree_of k ∷ shown (k + 1) n

  pub at_name : (k n : ℕ) → AreWhole ts k n → ShowMembers b ts k n → k < n → AtName k n
  at_name k n w named l =
      let whole = w.0 in
      let found = below b ts k (omega arith) in
      let t = found.0 in
      let h = found.1 in
      let s = walk_on k n t h (source.linked k t h) (w.1 k t (omega arith) l h) in
      let c = kind_string (byte b t.start) (name_node b (kind_by (byte b t.start)) t.start t.stop _
      (sym (ap is_name found.2) ∙ name_first _ _ (named _ s))) in
      let e : link_of t ≡ k + 1 = source.lone k t h c in
      let on = subst (λ q. shown k n ≡ tree_of k ∷ shown q n) e s in
      record {
        value = elim (cases_lt (k + 1) n) [
          | inl o ↦ o
          | inr g ↦ absurd (lone_name (tree_of k) (shown (k + 1) n) (named _ on) (shown_none (k + 1) n g))
        ];
        shown_on = on;
      }

  -- one step of a walk over items
  pub item_on : (k n r : ℕ) → AreWhole ts k n → k < n → LinksTo ts k r → shown k n ≡ tree_of k ∷ shown r n
  item_on k n r w l e =
      let whole = w.0 in
      let found = below b ts k (omega arith) in
      let f = source.linked k found.0 found.1 in
      let g = e found.0 found.1 in
      let o = w.1 k found.0 (omega arith) l found.1 in
      walk_on k n found.0 found.1 g (omega arith)

  -- one step of a walk over names and values
  pub record MemberStep (k n r : ℕ) : Type 0 where
    pub shown_on : pairs_of (shown k n) ≡ (tree_of k, tree_of (k + 1)) ∷ pairs_of (shown r n)
    pub named : ShowMembers b ts r n

  pub member_on : (k n r : ℕ) → AreWhole ts k n → ShowMembers b ts k n → k < n → LinksTo ts (k + 1) r
      → MemberStep k n r
  member_on k n r w named l e =
      let a = at_name k n w named l in
      let both = a.shown_on ∙ ap (λ xs. tree_of k ∷ xs)
      (item_on (k + 1) n r (whole_later k (k + 1) n (omega arith) w) a.value e) in
      record {
        shown_on = ap pairs_of both;
        named = λ us f.
            sym (ap are_members f) ∙ second_so (is_name (tree_of k)) (are_members (shown r n)) (named _ both);
      }

  -- ---- where a walk begins

  -- of a node of the kind r whose token, at k, links to l: a walk over its items up to n
  pub record ItemsFrom (k n : ℕ) : Type 0 where
    pub whole : AreWhole ts (k + 1) n
    pub all : shown (k + 1) n ≡ items_of (tree_of k)

  -- and one over its members
  pub record MembersFrom (k n : ℕ) : Type 0 where
    pub whole : AreWhole ts (k + 1) n
    pub named : ShowMembers b ts (k + 1) n
    pub all : pairs_of (shown (k + 1) n) ≡ members_of (tree_of k)

  module _ (k l : ℕ) {n : ℕ} {r : Kind} (inside : k < length ts) (e : LinksTo ts k l)
      (f : r ≡ kind_of (tree_of k)) where
    pub items_from_link : n ≡ items_end r l → ItemsFrom k n
    items_from_link g =
        let found = below b ts k inside in
        let t = found.0 in
        let w = below_at b ts k t found.1 in
        let d = kind_by (byte b t.start) in
        let kind : r ≡ d = f ∙ ap kind_of w.tree ∙ kind-node b d t.start t.stop _ in
        let stop : items_end d l ≡ n = ap (λ x. items_end x l) (sym kind) ∙ sym g in
        record {
          whole = subst (AreWhole ts (k + 1)) stop
              (whole_items ts (k + 1) l d (whole_parts k t found.1 (e t found.1)));
          all = ap (shown (k + 1)) (sym stop) ∙ items-node b d t.start t.stop l (shown (k + 1))
              (shown_parts k t found.1 (e t found.1)) (shown_none (k + 1) 0 (omega arith)) ∙ sym (ap items_of w.tree);
        }

    pub members_from_link : n ≡ members_end r l → MembersFrom k n
    members_from_link g =
        let found = below b ts k inside in
        let t = found.0 in
        let w = below_at b ts k t found.1 in
        let d = kind_by (byte b t.start) in
        let parts = held t.stop (forest b (drop (k + 1) (spans_of ts))) in
        let kind : r ≡ d = f ∙ ap kind_of w.tree ∙ kind-node b d t.start t.stop parts in
        let names : d ≡ Object → are_members parts ≡ true =
        λ o. source.named k t found.1 (kind_object (byte b t.start) o) in
        let first = shown_parts k t found.1 (e t found.1) in
        let none = shown_none (k + 1) 0 (omega arith) in
        let stop : members_end d l ≡ n = ap (λ x. members_end x l) (sym kind) ∙ sym g in
        record {
          whole = subst (AreWhole ts (k + 1)) stop
              (whole_members ts (k + 1) l d (whole_parts k t found.1 (e t found.1)));
          named = λ us q. sym (ap are_members q) ∙ ap (λ m. are_members (shown (k + 1) m)) (sym stop)
              ∙ named-node d l (shown (k + 1)) names first none;
          all = ap (λ m. pairs_of (shown (k + 1) m)) (sym stop)
              ∙ members-node b d t.start t.stop l (shown (k + 1)) names first none ∙ sym (ap members_of w.tree);
        }

  -- ---- no more trees than tokens

  pub few_trees : (k n : ℕ) → length (shown k n) ≤ length ts
  few_trees k n = grind (arith, common_steps, length-forest, length-spans_of)

  pub few_pairs : (k n : ℕ) → length (pairs_of (shown k n)) ≤ length ts
  few_pairs k n = grind (arith, length-pairs, few_trees)

  -- ---- a walk that passes over the first trees by how many values and names they are

  -- a walk from the k-th token on, whose first j trees are m values and names
  walk_behind : (j k m n : ℕ) → AreWhole ts k n → j ≤ length (shown k n) → total_size (take j (shown k n)) ≡ m
      → shown (k + m) n ≡ drop j (shown k n)
  walk_behind zero k m n w few e = ap (λ i. shown i n) (omega arith)
  walk_behind (suc j) k m n w few e =
      elim (cases_lt k n) [
        | inl l ↦
            let whole = w.0 in
            let found = below b ts k (omega arith) in
            let t = found.0 in
            let r = link_of t in
            let here = source.linked k t found.1 in
            let own = sized k t found.1 in
            let step = walk_on k n t found.1 here (w.1 k t (omega arith) l found.1) in
            let first : total_size (take (suc j) (shown k n)) ≡ size (tree_of k) + total_size (take j (shown r n)) =
            ap (λ xs. total_size (take (suc j) xs)) step in
            let count = ap length step in
            let later = walk_behind j r (total_size (take j (shown r n))) n
            (whole_later k r n (omega arith) w) (omega arith) refl in
            let same : k + m ≡ r + total_size (take j (shown r n)) = omega arith in
            ap (λ i. shown i n) same ∙ later ∙ sym (ap (drop (suc j)) step)
        | inr g ↦ let none = ap length (shown_none k n g) in absurd (omega arith)
      ]

  link_low : (k l : ℕ) → k < length ts → LinksTo ts k l → l < 2 ^ 31
  link_low k l h e =
      let t = below [] ts k h in
      let here : t.0.link % 2 ^ 31 ≡ end_of k t.0 = source.linked k t.0 t.1 in
      omega (arith, e t.0 t.1)

  -- the items of a node whose token, at k, links to l
  pub small_items : (k l : ℕ) {n : ℕ} (r : Kind) → k < length ts → LinksTo ts k l → n ≡ items_end r l
      → total_size (shown (k + 1) n) < 2 ^ 31
  small_items k l {n} r inside e f = grind (arith, common_steps, link_low, items_end_low, forest_small)

  -- a walk over them that passes over the first ones
  pub items_behind_link : (k l : ℕ) {n : ℕ} (j : ℕ) {m : ℕ} {r : Kind} → k < length ts → LinksTo ts k l
      → r ≡ kind_of (tree_of k) → n ≡ items_end r l → j ≤ length (items_of (tree_of k))
      → total_size (take j (items_of (tree_of k))) ≡ m → shown (k + 1 + m) n ≡ drop j (items_of (tree_of k))
  items_behind_link k l {n} j {m} inside e f g few same = grind (arith, items_from_link, walk_behind)

  -- the item behind the first ones of a node, if there is one
  pub record ItemBehind (k j m : ℕ) : Type 0 where
    pub inside : k + 1 + m < length ts
    pub rest : List Tree
    pub first : drop j (items_of (tree_of k)) ≡ tree_of (k + 1 + m) ∷ rest

  pub item_behind_link : (k j : ℕ) {m : ℕ} → k < length ts → j < length (items_of (tree_of k))
      → total_size (take j (items_of (tree_of k))) ≡ m → ItemBehind k j m
  item_behind_link k j {m} inside few same =
      let found = below b ts k inside in
      let l = end_of k found.0 in
      let r = kind_of (tree_of k) in
      let n = items_end r l in
      let links : LinksTo ts k l = λ t e. ap (end_of k) (some_same found.0 t (sym found.1 ∙ e)) in
      let w = items_from_link k l {n = n} {r = r} inside links refl refl in
      let left = items_behind_link k l {n = n} j {r = r} inside links refl refl (omega (arith, few)) same in
      let count = length-drop j (items_of (tree_of k)) in
      elim (cases_lt (k + 1 + m) n) [
        | inl low ↦
            let whole = whole_later (k + 1) (k + 1 + m) n (omega arith) w.whole in
            let there = below b ts (k + 1 + m) (omega (arith, whole.0, low)) in
            let u = there.0 in
            record {
              inside = omega (arith, whole.0, low);
              rest = shown (link_of u) n;
              first = sym left ∙ walk_on (k + 1 + m) n u there.1 (source.linked (k + 1 + m) u there.1)
                  (whole.1 (k + 1 + m) u (omega arith) low there.1);
            }
        | inr high ↦
            let none = ap length (sym left ∙ shown_none (k + 1 + m) n high) in
            absurd (omega (arith, none, count, few))
      ]

  -- a token's link, by the size of its tree
  pub linked_size : (k l : ℕ) → k < length ts → LinksTo ts k l → (l ≡ k + size (tree_of k)) × (l < 2 ^ 31)
  linked_size k l inside e =
      let t = below b ts k inside in
      let here = source.linked k t.0 t.1 in
      let own = sized k t.0 t.1 in
      let there = e t.0 t.1 in
      (omega arith, link_low k l inside e)

  -- a token's index is below its link, which is below 2^31
  pub number_linked : (k : ℕ) → k < length ts → k < 2 ^ 31
  number_linked k h =
      let t = below [] ts k h in
      let e : t.0.link % 2 ^ 31 ≡ end_of k t.0 = source.linked k t.0 t.1 in
      let low : t.0.link % 2 ^ 31 < 2 ^ 31 = omega arith in
      omega arith
