-- City objects at hand, and those that wait, told by their numbers.
use Rattle.cj_feature.proofs.Common.{AddsNone, AreNamed, BoundedList, Contains, Contains-permutation, IsGuide, IsPermutation-sym, IsReachedObject, IsReady, Json, KeepsTokens, Knows, List, Node, ReachesName, SlotHolds, Some, Span, Token, Tree, WaitsFor, [], arith, chars, codes, document_line, document_source, inl, inr, is_marked_at, line_of, listed_in, member_of, members_of, refl, slice_get_within, slice_set, source_of, spans_by, spans_of, suc, sym, text_of, tokens_in, tree, tree_at, zero, ℕ, ◌+◌, ◌<◌, ◌∷◌, ◌≡◌, ◌≢◌, ◌⊎◌, IsPermutation-put_mid}
use Rattle.std.proofs.Common.{slice_get, replicate, IsPermutation}
use Rattle.std.proofs.lemmas.Option.{get_or_from_slice_get, slice_get_read}
use Rattle.cj_spans.specs.declared.node.Doc.{Doc}
use Rattle.cj_feature.specs.declared.feature.search.near.Near.{Near}
use Rattle.cj_feature.specs.declared.feature.search.near.lists.Lists.{Lists}
use Rattle.cj_feature.specs.declared.feature.search.near.pending.Pending.{Pending}
use Rattle.cj_feature.specs.declared.feature.search.near.slot.Held.TheVariants.{Nothing}
use Rattle.cj_feature.specs.declared.feature.search.near.slot.Slot.{Slot}
use Rattle.cj_spans.proofs.Noted.{line-of-document}
use Rattle.cj_feature.proofs.Reaching.{reached-in, reached-out, child-reached, own-reached}
use Rattle.cj_feature.proofs.LinkFaults.{from-texts}
use Rattle.cj_feature.proofs.Walking.{marked-more}

-- ---- numbers in a list

-- what stands in a list with another value at one place: that, or what stood there
set-cases : {X : Type 0} (xs : List X) (i k : ℕ) (v n : X) → slice_get (slice_set xs i v) k ≡ Some n
    → ((k ≡ i) × (v ≡ n)) ⊎ ((k ≢ i) × (slice_get xs k ≡ Some n))
set-cases [] i k v n h = absurd (cc h)
set-cases (x ∷ xs) zero zero v n h = inl (refl, cc h)
set-cases (x ∷ xs) zero (suc k) v n h = inr (λ e. absurd (omega arith), h)
set-cases (x ∷ xs) (suc i) zero v n h = inr (λ e. absurd (omega arith), h)
set-cases (x ∷ xs) (suc i) (suc k) v n h = search (arith, set-cases xs i k v n h)

-- what holds of each city object at hand, holds with another in one slot
pub each-set : (P : ℕ → Type 0) (xs : List Slot) (i : ℕ) (v : Slot)
    → ((k n : ℕ) (s : Slot) → slice_get xs k ≡ Some s → IsReady s n → P n) → ((n : ℕ) → IsReady v n → P n)
    → (k n : ℕ) (s : Slot) → slice_get (slice_set xs i v) k ≡ Some s → IsReady s n → P n
each-set P xs i v all here k n s h r = search (arith, set-cases)

-- slots in another order are the same
pub among-moved : {X : Type 0} (xs ys : List X) (k : ℕ) (n : X) → IsPermutation xs ys → slice_get ys k ≡ Some n
    → (j : ℕ) × (slice_get xs j ≡ Some n)
among-moved xs ys k n moved at =
    let there =
    Contains-permutation ys xs n (IsPermutation-sym xs ys moved)
    (k, slice_get_within ys k n at, get_or_from_slice_get ys k n n at) in
    (there.0, slice_get_read xs _ _ n refl there.1 (sym there.2))

same-one : {X : Type 0} (n : ℕ) (v : X) (k : ℕ) (x : X) → slice_get (replicate n v) k ≡ Some x → x ≡ v
same-one zero v k x h = absurd (cc h)
same-one (suc n) v zero x h = cc h
same-one (suc n) v (suc k) x h = same-one n v k x h

-- where each slot holds nothing, none holds a city object
pub none-held : (n : ℕ) (v : Slot) → SlotHolds v Nothing → (k m : ℕ) (s : Slot) → slice_get (replicate n v) k ≡ Some s
    → IsReady s m → ⊥
none-held n v empty k m s h r = search (arith, same-one)

-- what holds of each of the first numbers, holds with one more
pub each-added : (P : ℕ → Type 0) (xs : List ℕ) (count v : ℕ) → ((k n : ℕ) → k < count → slice_get xs k ≡ Some n → P n)
    → P v → (k n : ℕ) → k < count + 1 → slice_get (slice_set xs count v) k ≡ Some n → P n
each-added P xs count v all here k n l h = search (arith, set-cases)

-- ---- what is reached

-- what a city object that is reached lists, is reached
pub lists-reached : (feature object item : Tree) (objects : Node) → member_of (chars (codes "CityObjects")) feature
    ≡ Some (tree objects) → IsReachedObject feature object → Contains (listed_in (chars (codes "children")) object) item
    → ReachesName feature objects item
lists-reached feature object item objects o r held = λ name t at same.
    let there = reached-in feature r.id (tree objects) r.has_id o object r in
    let text = from-texts (text_of name) (text_of item) same in
    reached-out feature r.id (tree objects) r.has_id o name t at
    (child-reached (members_of (tree objects)) r.id (there.0, object) (name, t) item text.0 there.2 there.1 held at
    text.1 text.2)

-- what has the name of the id is reached
pub id-reached : (feature id : Tree) (objects : Node) → member_of (chars (codes "id")) feature ≡ Some id
    → member_of (chars (codes "CityObjects")) feature ≡ Some (tree objects) → ReachesName feature objects id
id-reached feature id objects i o = λ name t at same.
    reached-out _ id _ i o _ t at (own-reached _ id (name, t) at same)

-- ---- steps of the guide

pub same-hand : {O L : ℕ} {a : Lists O L} → AddsNone a a
same-hand = record { slots = λ k n s at ready. (k, at) }

pub more-hand : {O L : ℕ} {a b c : Lists O L} → AddsNone a b → AddsNone b c → AddsNone a c
more-hand h k =
    record { slots = λ i n s at ready. let from = k.slots i n s at ready in h.slots _ n s from.1 ready }

pub named-kept : {O L : ℕ} (objects : List (Tree × Tree)) (line : List ℕ) (spans : List Span) {a b : Lists O L}
    → AddsNone a b → AreNamed objects line spans a.slots → AreNamed objects line spans b.slots
named-kept objects line spans h named = λ k n s at ready. let from = h.slots k n s at ready in
    named _ n s from.1 ready

pub known-kept : {O L : ℕ} (n : Node) {a b : Lists O L} → AddsNone a b → Knows n a → Knows n b
known-kept n h k = named-kept _ _ _ h k

-- the guide stands, with none come to hand and others that wait
pub guide-on : {O L P : ℕ} {line : List ℕ} {tokens : List Token} {a b : Near O L P} → IsGuide line tokens a
    → AddsNone a.lists b.lists
    → ((f : Tree) → Json line f → WaitsFor f line (spans_of tokens) a.pending
    → WaitsFor f line (spans_of tokens) b.pending) → IsGuide line tokens b
guide-on {line = line} {tokens = tokens} g h w = search (arith, named-kept, w, g.waiting, g.known, g.sound)

-- what waits beside a node, told by its document
module _ {P : ℕ} (n : Node) (d : Doc) (source : source_of n ≡ document_source d) (f : Tree) (near : Pending P) where
  pub waits-there : WaitsFor f (line_of n) (spans_by n) near
      → WaitsFor f (document_line d) (spans_of (tokens_in (document_source d))) near
  waits-there h = rw (line-of-document n d source, source) at h

  pub waits-here : WaitsFor f (document_line d) (spans_of (tokens_in (document_source d))) near
      → WaitsFor f (line_of n) (spans_by n) near
  waits-here h = rw (line-of-document n d source, source) h

-- those at hand beside a node, told by its document
module _ {O L : ℕ} (n : Node) (d : Doc) (source : source_of n ≡ document_source d) (near : Lists O L) where
  pub known-there : Knows n near
      → AreNamed (members_of (tree n)) (document_line d) (spans_of (tokens_in (document_source d))) near.slots
  known-there h = rw (line-of-document n d source, source) at h

  pub known-here : AreNamed (members_of (tree n)) (document_line d) (spans_of (tokens_in (document_source d)))
      near.slots → Knows n near
  known-here h = rw (line-of-document n d source, source) h

-- one more mark
pub guide-marked : {O L P : ℕ} {line : List ℕ} {old new : BoundedList Token} {near : Near O L P} (n : ℕ)
    → IsGuide line old.elements near → KeepsTokens old new
    → ((k : ℕ) → k ≢ n → is_marked_at new.elements k ≡ is_marked_at old.elements k)
    → ((f : Tree) → Json line f → IsReachedObject f (tree_at line (spans_of old.elements) n))
    → IsGuide line new.elements near
guide-marked {line = line} {old = old} {new = new} n g kept others reached = record {
  of = kept.of _ g.of;
  known = λ f o j e. rw kept.spans (g.known f o j e);
  waiting = λ f j. rw kept.spans (g.waiting f j);
  sound = λ f j t h.
      elim (marked-more _ _ _ n t kept.spans others h) [
        | inl e ↦ rw e at (reached f j)
        | inr m ↦ g.sound f j t m
      ];
}

-- the same guide, told of a document of the line, with none come to hand and the same that wait
pub guide-at : {O L P : ℕ} {line l : List ℕ} {ts us : List Token} {a b : Near O L P} → l ≡ line → us ≡ ts
    → AddsNone a.lists b.lists → b.pending.numbers ≡ a.pending.numbers → b.pending.count ≡ a.pending.count
    → IsGuide line ts a → IsGuide l us b
guide-at e q h p w g = rw (e, q) (guide-on g h (λ f j waits. rw (p, w) waits))

-- slots in the middle in another order
pub ruleset slots_moved = (IsPermutation-put_mid)

pub ruleset none_at_hand = (none-held)
