-- What is held of the trees of lines, from line to line.
use Rattle.cj_stream.proofs.Common.{Bool, Forgets, HasHeld, HasRoom, HoldsFew, HoldsFewNext, LimitPair, List, NoLf, Reading, Reads, Rises, Scanned, Scanning, ScansLine, ScansNext, Stores, Token, [], ap, append_assoc, are_readable, arith, begun, begun_of, closed, false, first_content, first_of, is_blank_byte, is_readable, is_spelled, is_utf8, length, list_all, list_all-append, max, nat_tests, refl, suc, sym, tree_nest, tree_size, true, ℕ, ◌&&◌, ◌++◌, ◌<◌, ◌∙◌, ◌∷◌, ◌≡◌, ◌≤◌}
use Rattle.std.proofs.Common.{ltb}
use Rattle.cj_spans.specs.Marks.{bare}
use Rattle.cj_spans.specs.Scan.{KeepsLaw}
use Rattle.cj_spans.proofs.Judgements.{judgement}
use Rattle.cj_stream.proofs.LineLemmas.{closed-more, begun-more, closed-lf, first_content-grows}
use Rattle.cj_stream.proofs.ReadingLemmas.{greatest-append, held-whole, dropped-long, IsBegun-stored}
use Rattle.cj_stream.proofs.VerdictLemmas.{and-both}

pub Rises-same : (f g : Scanning) → g ≡ f → Rises f g
Rises-same f g e = rw e (record { header = omega arith; line = omega arith; opened = omega arith })

pub Rises-then : (f g h : Scanning) → Rises f g → Rises g h → Rises f h
Rises-then f g h a b = record {
  header = omega arith;
  line = omega arith;
  opened = omega arith;
}

-- tokens that are the same but for their marks are as many
pub length-bare : (ts : List Token) → length (bare ts) ≡ length ts
length-bare [] = refl
length-bare (t ∷ ts) = ap suc (length-bare ts)

-- ---- within the bound

pub few-scanned : (limits : LimitPair) (cs : List (List ℕ)) (f : Scanning) (h : ℕ) → Scanned limits cs f
    → length (first_of cs []) ≤ h → HoldsFew limits h f
few-scanned limits cs f h s le = omega arith

-- ---- a line that was handled

-- what lists have held, once all is known of it
held-exact : (all : Bool) (n peak : ℕ) → peak ≡ n → HasHeld all n peak
held-exact all n peak e = record { least = omega arith; exact = λ _. e }

held-at : {all : Bool} {n peak now : ℕ} → HasHeld all n peak → now ≡ peak → HasHeld all n now
held-at h e = rw e h

-- the later lines of some, and one more, can be read: so they can, and so can it
readable-more : (limits : LimitPair) (ds : List (List ℕ)) (c : List ℕ)
    → list_all (is_readable limits) (ds ++ c ∷ []) ≡ true
    → (list_all (is_readable limits) ds ≡ true) × (is_readable limits c ≡ true)
readable-more limits ds c h =
    let both = and-both _ _
    (sym (list_all-append (is_readable limits) ds (c ∷ [])) ∙ h) in
    (both.0, (and-both _ true both.1).0)

-- a later line more: the greater of what was held and of what it holds
held-more : (limits : LimitPair) (d : List ℕ) (ds : List (List ℕ)) (c : List ℕ) (n peak now m next : ℕ)
    → HasHeld (are_readable limits (d ∷ ds)) n peak → HasHeld (is_readable limits c) (max peak m) now
    → next ≡ max n m → HasHeld (are_readable limits (d ∷ ds ++ c ∷ [])) next now
held-more limits d ds c n peak now m next h k e = record {
  least = omega arith;
  exact = λ all. let both = readable-more _ _ c all in omega (arith, h.exact both.0, k.exact both.1);
}

-- a content that is none that can be read has no tree
pub record IsUnread (limits : LimitPair) (c : List ℕ) : Type 0 where
  pub bad : is_readable limits c ≡ false
  pub size : tree_size limits c ≡ 0
  pub nest : tree_nest limits c ≡ 0

pub unread-long : (limits : LimitPair) (c : List ℕ) → limits.line < length c → IsUnread limits c
unread-long limits c long =
    let e : ltb limits.line (length c) ≡ true = grind (arith, nat_tests) in
    record { bad = rw e; size = rw e; nest = rw e }

pub unread-said : (limits : LimitPair) (c : List ℕ) → list_all is_blank_byte c ≡ false
    → is_utf8 c && is_spelled (judgement c limits.depth) ≡ false → IsUnread limits c
unread-said limits c blank bad =
    grind (arith, nat_tests)

-- ---- a later line that was scanned

-- nothing was held of it
pub scans-none : (limits : LimitPair) (c : List ℕ) (f g : Scanning) → g ≡ f
    → (tree_size limits c ≡ 0) × (tree_nest limits c ≡ 0) → ScansLine limits c f g
scans-none limits c f g same zero = rw same (record {
  header = refl;
  line = held-exact _ _ _ (omega arith);
  opened = held-exact _ _ _ (omega arith);
  law = omega arith;
})

-- it cannot be read
pub scans-unread : (limits : LimitPair) (c : List ℕ) (f g : Scanning) → HasRoom limits f → length c ≤ limits.line
    → g.header ≡ f.header → KeepsLaw c f.line g.line f.opened g.opened → IsUnread limits c
    → ScansLine limits c f g
scans-unread limits c f g room short same k u =
    grind (arith, nat_tests)

-- it was handled
scanned-later : (limits : LimitPair) (c : List ℕ) (f g h : Scanning) → Forgets g h → ScansLine limits c f g
    → (cs : List (List ℕ)) → 0 < length cs → Scanned limits cs f → Scanned limits (cs ++ c ∷ []) h
scanned-later limits c f g h k line [] later s = absurd (omega arith)
scanned-later limits c f g h k line (d ∷ ds) later s = record {
  header = ap (λ z. length z.elements) (k.header ∙ line.header) ∙ s.header;
  header_peak = ap (λ z. z.peak) (k.header ∙ line.header) ∙ s.header_peak;
  line = k.line.elements;
  line_peak = held-more _ d _ c _ _ _ _ _ s.line_peak
      (held-at line.line (omega arith)) (greatest-append _ _ c);
  opened = k.opened.elements;
  opened_peak = held-more _ d _ c _ _ _ _ _ s.opened_peak
      (held-at line.opened (omega arith)) (greatest-append (tree_nest limits) (d ∷ ds) c);
  header_law = rw (k.header, line.header) s.header_law;
  line_law = omega arith;
}

-- what is told of the lists by what is held of the begun line, and where that is dropped
pub ScansNext-held : (x : Reading) (f g h : Scanning) → 0 < x.lines → x.dropped ≡ false
    → ScansLine x.rules.limits (begun_of x) f g → Forgets g h → ScansNext x f h
ScansNext-held x f g h later held line k = λ cs c count is s.
    scanned-later _ c f g h k (rw (held-whole x c is held).0 at line)
    _ (omega arith) s

pub ScansNext-dropped : (x : Reading) (f h : Scanning) → 0 < x.lines → x.dropped ≡ true → Forgets f h → ScansNext x f h
ScansNext-dropped x f h later dropped k = λ cs c count is s.
    let u = unread-long _ c (dropped-long x c is dropped) in
    scanned-later _ c f f h k (scans-none _ c f f refl (u.size, u.nest)) _
    (omega arith) s

-- ---- lines of bytes

-- the lines that LF ended, after a part and an LF
pub closed-line : (p part : List ℕ) → NoLf part → closed (p ++ (part ++ 10 ∷ [])) ≡ closed p ++ (begun p ++ part) ∷ []
closed-line p part n =
    rw (← append_assoc p part (10 ∷ []), closed-lf, closed-more, begun-more)

none-shorter : (cs : List (List ℕ)) (b : List ℕ) → length (first_of cs []) ≤ length (first_of cs b)
none-shorter [] b = omega arith
none-shorter (c ∷ cs) b = omega arith

-- the first content so far is no longer than that of a text that begins so
pub first-closed : (p more : List ℕ) → length (first_of (closed p) []) ≤ length (first_content (p ++ more))
first-closed p more = omega (arith, none-shorter, first_content-grows)

pub first-part : (p part more : List ℕ) → NoLf part
    → length (first_of (closed p) (begun p ++ part)) ≤ length (first_content (p ++ (part ++ 10 ∷ more)))
first-part p part more n =
    let k = rw (closed-more, begun-more, append_assoc p part (10 ∷ more)) at (first_content-grows (p ++ part)
    (10 ∷ more)) in
    k

pub few-more : (limits : LimitPair) (h i : ℕ) (f : Scanning) → h ≤ i → HoldsFew limits h f → HoldsFew limits i f
few-more limits h i f le s = omega arith

-- ---- a part that was stored, and its line handled

module _ (f g : Reading) (p part : List ℕ) (now mid new : Scanning) (reads : Reads f p) (n : NoLf part)
    (st : Stores f part g) (same : mid ≡ now) (s : Scanned f.rules.limits (closed p) now) where
  before : Scanned g.rules.limits (closed p) mid
  before = rw (same, st.rules) s

  pub scanned-line : ScansNext g mid new → Scanned f.rules.limits (closed (p ++ (part ++ 10 ∷ []))) new
  scanned-line scan =
      let j = rw st.rules at (scan (closed p) (begun p ++ part) (sym (st.lines ∙ reads.lines))
      (IsBegun-stored f g p part reads st)
      before) in
      rw (closed-line) j

  pub few-line : (more : List ℕ) → HoldsFewNext g mid new
      → HoldsFew f.rules.limits (length (first_content (p ++ (part ++ 10 ∷ more)))) new
  few-line more scan =
      let j = rw st.rules at (scan (closed p) (begun p ++ part) (sym (st.lines ∙ reads.lines))
      (IsBegun-stored f g p part reads st)
      before) in
      few-more _ _
      _ new (first-part p _ _ n) j

-- bytes without LF end no line
pub scanned-begun : (limits : LimitPair) (p part : List ℕ) (f g : Scanning) → NoLf part → g ≡ f
    → Scanned limits (closed p) f → Scanned limits (closed (p ++ part)) g
scanned-begun limits p part f g n e s = rw (closed-more, e) s
