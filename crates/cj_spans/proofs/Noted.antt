-- Walks that note members, and the marks that they leave.
use Rattle.cj_spans.proofs.Common.{◌≡◌, ◌≢◌, ◌∙◌, ◌<◌, ℕ, List, [], ◌∷◌, Bool, true, false, not, ◌⊎◌, Option, Some, None, cond, length, get_or, map, nat_eq, ap, refl, sym, subst, inl, inr, arith, cases_eq, false≢true, nat_tests, get_or-set_same, get_or-set_other, length-set, map-set, get_or-map, are_apart, then_apart, first_code_of, head, are_same_texts, first_named, has_text, text_of, spans_of, before, Tree, members_left, tree_at, zero, ◌^◌, slice_get, BoundedList, IsWithin, Token, start_of, token_at, AreOf, AreRising, AreLinked, link_of, Json, tree_in, source_of, tokens_in, line_of, document, document_line, document_source}
use Rattle.std.specs.Prelude.{◌+◌, ◌%◌, drop, replicate, slice_set, suc, nat_le}
use Rattle.std.specs.Cmp.Lexicographic.{same_text}
use Rattle.cj_spans.specs.declared.node.Members.{Members}
use Rattle.cj_spans.specs.inner.Noted.{AreNoted, IsPlace, members_from, noted_from, note, is_noted, is_free}
use Rattle.cj_spans.proofs.Spellings.{some_same}
use Rattle.cj_spans.proofs.Views.{below, start_shown}
use Rattle.cj_spans.proofs.SourceWalks.{LinksTo, at_name, member_on}
use Rattle.cj_spans.specs.Marks.{has_mark, is_marked_at, bare, KeepsTokens}
use Rattle.cj_spans.specs.declared.node.Doc.{Doc}
use Rattle.cj_spans.specs.declared.node.Node.{Node}
use Rattle.cj_spans.proofs.Scanned.{one_tree, its_tree}

-- ---- one walk that notes the place of the first member of each slot

pub noted-yes : (p : ℕ) → 0 < p → is_noted p ≡ true
noted-yes p h = let e : nat_eq p 0 ≡ false = grind (arith, nat_tests) in ap not e

-- ---- a text with another first character

same_texts : (a b : Option (List ℕ)) → are_same_texts a b ≡ true → a ≡ b
same_texts (Some s) (Some t) h = ap Some (same_text s t (sym h))
same_texts _ _ h = cc

first_of : (s : List ℕ) (t : Tree) → has_text s t ≡ true → first_code_of t ≡ head s
first_of s t h = cc (same_texts (text_of t) (Some s) h)

other_first : (s : List ℕ) (t : Tree) → first_code_of t ≢ head s → has_text s t ≡ false
other_first s t n = grind arith

-- such a member is passed over
pub passed : (s : List ℕ) (m : Tree × Tree) (rest : List (Tree × Tree)) → first_code_of m.0 ≢ head s
    → first_named s (m ∷ rest) ≡ first_named s rest
passed s m rest n = cc (other_first s m.0 n)

-- ---- one member more

none-other : (s : List ℕ) (c : ℕ) (t : Tree) → head s ≡ Some c → first_code_of t ≡ None → first_code_of t ≢ head s
none-other s c t e n h = grind arith

some-other : (s : List ℕ) (c d : ℕ) (t : Tree) → head s ≡ Some c → first_code_of t ≡ Some d → d % 32 ≢ c % 32
    → first_code_of t ≢ head s
some-other s c d t e f n h = grind arith

-- what is found from a place that was noted before, or among those that are left behind the member
on_from : (w : Members) (m : Tree × Tree) (rest : List (Tree × Tree)) (s : List ℕ) (p : ℕ)
    → (is_noted p ≡ false → first_named s (m ∷ rest) ≡ first_named s rest)
    → first_named s (noted_from w rest p) ≡ first_named s (noted_from w (m ∷ rest) p)
on_from w m rest s p h = grind (arith, members_from)

-- nothing is noted of the member
noted_past : {w : Members} (m : Tree × Tree) (rest : List (Tree × Tree)) {ps : List ℕ} → AreNoted w (m ∷ rest) ps
    → ((s : List ℕ) (c : ℕ) → head s ≡ Some c → is_noted (get_or ps (c % 32) 0) ≡ false → first_code_of m.0 ≢ head s)
    → AreNoted w rest ps
noted_past {w} m rest {ps} a n = grind (arith, on_from, passed, a.count, a.places, a.first)

-- its place is noted
noted_new : {w : Members} (m : Tree × Tree) (rest : List (Tree × Tree)) {ps : List ℕ} (d : ℕ) {p : ℕ}
    → AreNoted w (m ∷ rest) ps → first_code_of m.0 ≡ Some d → is_noted (get_or ps (d % 32) 0) ≡ false → 0 < p
    → IsPlace w p → members_from w p ≡ m ∷ rest → AreNoted w rest (slice_set ps (d % 32) p)
noted_new {w} m rest {ps} d {p} a code free some place from = record {
  count = length-set ps (d % 32) p ∙ a.count;
  places = λ i h. by_place i (cases_eq i (d % 32)) h;
  first = λ s c e. by_slot s c e (cases_eq (c % 32) (d % 32));
}
  where
    below : d % 32 < length ps
    below = omega arith

    here : get_or (slice_set ps (d % 32) p) (d % 32) 0 ≡ p
    here = get_or-set_same ps (d % 32) p 0 below

    by_place : (i : ℕ) → (i ≡ d % 32) ⊎ (i ≢ d % 32) → 0 < get_or (slice_set ps (d % 32) p) i 0
        → IsPlace w (get_or (slice_set ps (d % 32) p) i 0)
    by_place i (inl e) h = subst (IsPlace w) (sym (ap (λ k. get_or (slice_set ps (d % 32) p) k 0) e ∙ here)) place
    by_place i (inr n) h = let e = get_or-set_other ps (d % 32) i p 0 n in
        subst (IsPlace w) (sym e) (a.places i (rw e at h))

    by_slot : (s : List ℕ) (c : ℕ) → head s ≡ Some c → (c % 32 ≡ d % 32) ⊎ (c % 32 ≢ d % 32)
        → first_named s (noted_from w rest (get_or (slice_set ps (d % 32) p) (c % 32) 0))
        ≡ first_named s (members_left w)
    by_slot s c e (inl f) =
        let now : get_or (slice_set ps (d % 32) p) (c % 32) 0 ≡ p = cc (f, here) in
        let before : is_noted (get_or ps (c % 32) 0) ≡ false = cc (f, free) in
        cc (noted-yes p some, from, a.first s c e)
    by_slot s c e (inr n) = cc (
      get_or-set_other ps (d % 32) (c % 32) p 0 n,
      on_from w m rest s (get_or ps (c % 32)
          0) (λ f. passed s m rest (some-other s c d m.0 e code (λ g. n (sym g)))),
      a.first s c e,
    )

pub noted_on : {w : Members} (m : Tree × Tree) (rest : List (Tree × Tree)) {ps : List ℕ} (o : Option ℕ) {p : ℕ}
    → AreNoted w (m ∷ rest) ps → first_code_of m.0 ≡ o → 0 < p → IsPlace w p → members_from w p ≡ m ∷ rest
    → AreNoted w rest (note o p ps)
noted_on m rest None a code some place from = noted_past m rest a (λ s c e f. none-other s c m.0 e code)
noted_on {w} m rest {ps} (Some d) {p} a code some place from = by_test (is_noted (get_or ps (d % 32) 0)) refl
  where
    other : (c : ℕ) → is_noted (get_or ps (d % 32) 0) ≡ true → is_noted (get_or ps (c % 32) 0) ≡ false
        → d % 32 ≢ c % 32
    other c taken free h = false≢true (sym free ∙ ap (λ k. is_noted (get_or ps k 0)) (sym h) ∙ taken)

    by_test : (b : Bool) → is_noted (get_or ps (d % 32) 0) ≡ b → AreNoted w rest (cond b ps (slice_set ps (d % 32) p))
    by_test true e = noted_past m rest a (λ s c f g. some-other s c d m.0 f code (other c e g))
    by_test false e = noted_new m rest d a code e some place from

-- ---- slots that no two members share

pub apart_on : (m : Tree × Tree) (rest : List (Tree × Tree)) (ps : List ℕ) (o : Option ℕ) (p : ℕ) → length ps ≡ 32
    → first_code_of m.0 ≡ o → 0 < p → is_free o ps ≡ true
    → are_apart (map is_noted ps) (m ∷ rest) ≡ are_apart (map is_noted (note o p ps)) rest
apart_on m rest ps None p count code some free = absurd (false≢true free)
apart_on m rest ps (Some d) p count code some free = by_test (is_noted (get_or ps (d % 32) 0)) refl
  where
    taken : get_or (map is_noted ps) (d % 32) false ≡ is_noted (get_or ps (d % 32) 0)
    taken = get_or-map is_noted ps (d % 32) 0 false (omega (arith, count))

    by_test : (b : Bool) → is_noted (get_or ps (d % 32) 0) ≡ b
        → are_apart (map is_noted ps) (m ∷ rest) ≡ are_apart (map is_noted (cond b ps (slice_set ps (d % 32) p))) rest
    by_test true e = absurd (false≢true (sym (ap not e) ∙ free))
    by_test false e =
        ap (λ o. then_apart o (map is_noted ps) (λ more. are_apart more rest)) code
        ∙ ap (λ b. cond b false (are_apart (slice_set (map is_noted ps) (d % 32) true) rest)) (taken ∙ e)
        ∙ sym (ap (λ qs. are_apart qs rest) (map-set is_noted ps (d % 32) p
        ∙ ap (slice_set (map is_noted ps) (d % 32)) (noted-yes p some)))

-- ---- where a walk begins

none-at : (n i : ℕ) → ◌≡◌ {A = ℕ} (get_or (replicate n 0) i 0) 0
none-at (suc n) (suc i) = none-at n i
none-at _ _ = refl

pub noted_none : (w : Members) → AreNoted w (members_left w) (replicate 32 0)
noted_none w = record {
  count = refl;
  places = λ i h. absurd (omega (arith, none-at 32 i));
  first = λ s c e. ap (λ p. first_named s (noted_from w (members_left w) p)) (none-at 32 (c % 32));
}

-- ---- what is found

-- the member at a place
member_at : {w : Members} {p : ℕ} → IsPlace w p
    → (r : ℕ) × (members_from w p ≡ (
      tree_at w.source.line.now (spans_of w.source.tokens.now) p,
      tree_at w.source.line.now (spans_of w.source.tokens.now) (p + 1),
    ) ∷ members_from w r)
member_at {w} {p} h =
    let s = w.source in
    let line = s.line.now in
    let tokens = s.tokens.now in
    let whole = h.whole.0 in
    let a = at_name s p w.stop h.whole h.named h.within in
    let t = below line tokens (p + 1) (omega arith) in
    let r = p + 1 + 1 + before t.0.stop (drop (p + 1 + 1) tokens) in
    let links : LinksTo tokens (p + 1) r =
    λ u e. ap (λ v. p + 1 + 1 + before v.stop (drop (p + 1 + 1) tokens)) (some_same t.0 u (sym t.1 ∙ e)) in
    (r, (member_on s p w.stop r h.whole h.named h.within links).shown_on)

pub found_here : {w : Members} {p : ℕ} (s : List ℕ) → IsPlace w p
    → has_text s (tree_at w.source.line.now (spans_of w.source.tokens.now) p) ≡ true
    → first_named s (members_from w p) ≡ Some (tree_at w.source.line.now (spans_of w.source.tokens.now) (p + 1))
found_here {w} {p} s h is =
    let m = member_at h in
    let value = tree_at w.source.line.now (spans_of w.source.tokens.now) (p + 1) in
    cc m.1

-- a text whose first character has this slot
abbrev pub HasSlot : List ℕ → ℕ → Type 0
HasSlot s slot = (c : ℕ) × (head s ≡ Some c) × (c % 32 ≡ slot)

-- it is found from the place of the slot on
pub found_from : {w : Members} {ps : List ℕ} (s : List ℕ) (slot : ℕ) → AreNoted w [] ps → HasSlot s slot
    → 0 < get_or ps slot 0 → first_named s (members_from w (get_or ps slot 0)) ≡ first_named s (members_left w)
found_from {ps} s slot a h some = cc (noted-yes (get_or ps slot 0) some, h.2, a.first s h.0 h.1)

-- and if none is noted, there is none
pub found_none : {w : Members} {ps : List ℕ} (s : List ℕ) (slot : ℕ) → AreNoted w [] ps → HasSlot s slot
    → get_or ps slot 0 ≡ 0 → None ≡ first_named s (members_left w)
found_none s slot a h none = cc (h.2, a.first s h.0 h.1)

-- ---- marks: what they leave, and that a node is found by its tree

-- ---- a mark

abbrev pub with_mark : Token → Token
with_mark t = token_at t.start t.stop (link_of t + 2 ^ 31)

mod_more : (n : ℕ) → (n % 2 ^ 31 + 2 ^ 31) % 2 ^ 31 ≡ n % 2 ^ 31
mod_more n = omega arith

le_more : (n : ℕ) → nat_le (2 ^ 31) (n + 2 ^ 31) ≡ true
le_more n = grind (arith, nat_tests)

pub marked_here : (ts : List Token) (k : ℕ) (t : Token) → k < length ts
    → is_marked_at (slice_set ts k (with_mark t)) k ≡ true
marked_here [] k t h = absurd (omega arith)
marked_here (u ∷ ts) zero t h = le_more (link_of t)
marked_here (u ∷ ts) (suc k) t h = marked_here ts k t (omega arith)

pub marked_elsewhere : (ts : List Token) (n k : ℕ) (t : Token) → k ≢ n
    → is_marked_at (slice_set ts n t) k ≡ is_marked_at ts k
marked_elsewhere (u ∷ ts) zero zero t h = absurd (h refl)
marked_elsewhere (u ∷ ts) (suc n) (suc k) t h = marked_elsewhere ts n k t (λ e. h (ap suc e))
marked_elsewhere _ _ _ t h = refl

pub bare_kept : (ts : List Token) (n : ℕ) (t : Token) → slice_get ts n ≡ Some t
    → bare (slice_set ts n (with_mark t)) ≡ bare ts
bare_kept [] n t h = refl
bare_kept (u ∷ ts) zero t h = grind (arith, mod_more)
bare_kept (u ∷ ts) (suc n) t h = cc (bare_kept ts n t h)

-- ---- what tokens show without their marks

spans_bare : (ts : List Token) → spans_of (bare ts) ≡ spans_of ts
spans_bare [] = refl
spans_bare (t ∷ ts) = cc (spans_bare ts)

length_bare : (ts : List Token) → length (bare ts) ≡ length ts
length_bare [] = refl
length_bare (t ∷ ts) = ap suc (length_bare ts)

before_bare : (j : ℕ) (ts : List Token) → before j (bare ts) ≡ before j ts
before_bare j [] = refl
before_bare j (t ∷ ts) = rw (before_bare j ts) refl

drop_bare : (n : ℕ) (ts : List Token) → drop n (bare ts) ≡ bare (drop n ts)
drop_bare (suc n) (t ∷ ts) = drop_bare n ts
drop_bare _ _ = refl

get_bare : (ts : List Token) (k : ℕ) (t : Token) → slice_get ts k ≡ Some t
    → slice_get (bare ts) k ≡ Some (token_at t.start t.stop (link_of t))
get_bare [] k t h = cc
get_bare (u ∷ ts) zero t h = let e : u ≡ t = cc in cc
get_bare (u ∷ ts) (suc k) t h = get_bare ts k t h

-- the law of links, at a token, of tokens that differ by marks alone
linked_bare : (ts us : List Token) → bare us ≡ bare ts → AreLinked ts → AreLinked us
linked_bare ts us e linked = λ k t h.
    let g = get_bare us k t h in
    let f = rw e at g in
    let o = back ts k (token_at t.start t.stop (link_of t)) f in
    let l = linked k o.0 o.1 in
    let stop : o.0.stop ≡ t.stop = ap (λ (v : Token). v.stop) o.2 in
    let link : link_of o.0 ≡ link_of t = ap (λ (v : Token). v.link) o.2 in
    let rest = sym (before_bare t.stop (drop (k + 1) ts))
    ∙ ap (before t.stop) (sym (drop_bare (k + 1) ts) ∙ ap (drop (k + 1)) (sym e) ∙ drop_bare (k + 1) us)
    ∙ before_bare t.stop (drop (k + 1) us) in
    sym link ∙ l ∙ ap (λ j. k + 1 + before j (drop (k + 1) ts)) stop ∙ ap (λ n. k + 1 + n) rest
  where
    back : (vs : List Token) (k : ℕ) (b : Token) → slice_get (bare vs) k ≡ Some b → (t : Token)
        × (slice_get vs k ≡ Some t) × (token_at t.start t.stop (link_of t) ≡ b)
    back [] k b h = absurd (cc h)
    back (v ∷ vs) zero b h = let e : token_at v.start v.stop (link_of v) ≡ b = cc in (v, refl, e)
    back (v ∷ vs) (suc k) b h = back vs k b h

pub spans_kept : (ts us : List Token) → bare us ≡ bare ts → spans_of us ≡ spans_of ts
spans_kept ts us e = cc (spans_bare us, spans_bare ts)

pub length_kept : (ts us : List Token) → bare us ≡ bare ts → length us ≡ length ts
length_kept ts us e = cc (length_bare us, length_bare ts)

-- they show the same line
pub of_kept : (line : List ℕ) (ts us : List Token) → bare us ≡ bare ts → AreOf line ts → AreOf line us
of_kept line ts us e a = grind (arith, spans_kept, length_kept, linked_bare, a.tree, a.json, a.shown, a.count, a.linked)

-- ---- a node is found by its tree

one_start : (ts : List Token) (i k : ℕ) (t u : Token) → AreRising ts → slice_get ts i ≡ Some t → slice_get ts k ≡ Some u
    → t.start ≡ u.start → i ≡ k
one_start ts i k t u rising h g e = grind arith

pub one_number : (b : List ℕ) (ts : List Token) (i k : ℕ) → AreRising ts → i < length ts → k < length ts
    → tree_at b (spans_of ts) i ≡ tree_at b (spans_of ts) k → i ≡ k
one_number b ts i k rising l m e =
    let f = below b ts i l in
    let g = below b ts k m in
    one_start ts i k f.0 g.0 rising f.1 g.1
    (start_shown b ts i f.0 f.1 ∙ ap start_of e ∙ sym (start_shown b ts k g.0 g.1))

pub marked_within : (ts : List Token) (k : ℕ) → is_marked_at ts k ≡ true → k < length ts
marked_within [] k h = cc
marked_within (t ∷ ts) zero h = omega arith
marked_within (t ∷ ts) (suc k) h = omega (arith, marked_within ts k h)

pub mark_of : (ts : List Token) (k : ℕ) (t : Token) → slice_get ts k ≡ Some t → has_mark t ≡ is_marked_at ts k
mark_of [] k t h = cc
mark_of (u ∷ ts) zero t h = let e : u ≡ t = cc in cc
mark_of (u ∷ ts) (suc k) t h = mark_of ts k t h

pub keeps : (old : BoundedList Token) {new : BoundedList Token} (n : ℕ) (t : Token) → slice_get old.elements n ≡ Some t
    → new.elements ≡ slice_set old.elements n (with_mark t) → new ≡ record old { elements = new.elements }
    → IsWithin new → KeepsTokens old new
keeps old {new} n t h e l w = grind (arith, bare_kept, spans_kept, of_kept)

-- a node that is found by its number shows the tree of that token
pub found_at-number : (n : Node) (k : ℕ) → k < length (tokens_in (source_of n))
    → tree_in (source_of n) k ≡ tree_at (line_of n) (spans_of (tokens_in (source_of n))) k
unfolding tree_in source_of tokens_in line_of
found_at-number n k l = grind (arith, n.source.tokens.now)

pub line-of-document : (n : Node) (d : Doc) → source_of n ≡ document_source d → line_of n ≡ document_line d
unfolding source_of line_of document_source document_line
line-of-document n d e = cc

-- the tree of a document is the one that its line spells
module _ (d : Doc) (a : AreOf (document_line d) (tokens_in (document_source d))) where
  pub the-document : (t : Tree) → Json (document_line d) t → document d ≡ t
  unfolding document document_line document_source tokens_in
  the-document t j = one_tree a t j

  pub the-json : Json (document_line d) (document d)
  unfolding document document_line document_source tokens_in
  the-json = its_tree a
