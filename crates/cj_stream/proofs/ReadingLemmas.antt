-- What a splitter has read after it stored a part, and after it handled a line.
use Rattle.cj_stream.proofs.Common.{AreCounted, Bool, Invalid, IsLeft, IsWithin, Item, LimitPair, Line, LineTooLong, List, NoLf, None, EndsLine, Reading, Reads, Rules, Ruling, Stores, Tree, [], ap, append-nil, arith, begun, begun_after, begun_later, begun_of, closed, cond, ended_line, false, filter, filter-append, first_content, first_of, flat_map-append, goes_on, greatest, header_of, held_length, inl, inr, is_feature, is_lenient, item_after, item_at, kept_of, later_of, length, length-append, length-map, map, map-append, max, nat_lt, nat_tests, next_item, next_verdict, refl, reported_of, ruling_after, rulings, rulings_closed, suc, sym, begun_verdict, true, verdict, verdict_at, zero, ℕ, ◌&&◌, ◌++◌, ◌+◌, ◌<◌, ◌∙◌, ◌∷◌, ◌≡◌, ◌≤◌, ◌⊎◌}
use Rattle.std.proofs.Common.{eqb, ltb, ltb-true}
use Rattle.cj_stream.specs.Reading.{held_header, stored, IsBegun, Fits, Drops, StaysDropped}
use Rattle.cj_stream.proofs.LineLemmas.{closed-more, begun-more, closed-lf, begun-lf, first_of-some, first_of-lf, begun_after-some, begun_after-empty}
use Rattle.cj_stream.proofs.VerdictLemmas.{verdict-first, verdict-long, end-append, kept_of-append, rulings-next}
use Rattle.std.proofs.lemmas.List.{nil_from_length}

pub zero_or : (n : ℕ) → (n ≡ 0) ⊎ (0 < n)
zero_or zero = inl refl
zero_or (suc n) = inr (omega arith)

pub begun_of-first : (f : Reading) → f.lines ≡ 0 → begun_of f ≡ f.header.elements
begun_of-first f h = rw h

pub begun_of-later : (f : Reading) → 0 < f.lines → begun_of f ≡ f.line.elements
begun_of-later f h = let e : eqb f.lines 0 ≡ false = grind (arith, nat_tests) in rw e

-- nothing goes on after the first line, if it is refused
pub strict-first : (f : Reading) → f.lines ≡ 0 → is_lenient f ≡ false
strict-first f h = rw h

-- ---- what is held of a content

pub stored-short : (limit : ℕ) (c : List ℕ) → length c ≤ limit → (stored limit c ≡ c) × (ltb limit (length c) ≡ false)
stored-short limit c short = let e : ltb limit (length c) ≡ false = grind (arith, nat_tests) in (rw e, e)

pub stored-long : (limit : ℕ) (c : List ℕ) → limit < length c → (stored limit c ≡ []) × (ltb limit (length c) ≡ true)
stored-long limit c long = let e : ltb limit (length c) ≡ true = grind (arith, nat_tests) in (rw e, e)

pub short-from : (limit n : ℕ) → ltb limit n ≡ false → n ≤ limit
short-from limit n e = grind (arith, nat_tests)

pub long-from : (limit n : ℕ) → ltb limit n ≡ true → limit < n
long-from limit n e = ltb-true _ n e

pub greatest-held : (limits : LimitPair) (cs : List (List ℕ)) → greatest (held_length limits) cs ≤ limits.line
greatest-held limits [] = omega arith
greatest-held limits (c ∷ cs) = omega (arith, greatest-held limits cs)

-- reading goes on after later lines alone
pub goes_on-later : (rules : Rules) (n : ℕ) → goes_on rules (n + 1) ≡ true → 0 < n
goes_on-later rules n e =
    grind (arith, nat_tests)

-- the begun line is held whole where it is not dropped
pub held-whole : (f : Reading) (c : List ℕ) → IsBegun f c → f.dropped ≡ false → (begun_of f ≡ c)
    × (length c ≤ f.rules.limits.line)
held-whole f c is held =
    let short = short-from _ _ (sym is.dropped ∙ held) in
    (is.content ∙ (stored-short _ c short).0, short)

pub dropped-long : (f : Reading) (c : List ℕ) → IsBegun f c → f.dropped ≡ true → f.rules.limits.line < length c
dropped-long f c is dropped = long-from _ _ (sym is.dropped ∙ dropped)

-- whether a line has begun
pub has-begun : (f : Reading) (c : List ℕ) → IsBegun f c → (0 < length (begun_of f)) ⊎ (f.dropped ≡ true) → 0 < length c
has-begun f c is (inr dropped) = omega (arith, dropped-long f c is dropped)
has-begun f c is (inl some) =
    grind (arith, nat_tests)

-- its verdict, by what is known of it
pub said-verdict : (f : Reading) (c : List ℕ) → IsBegun f c → begun_verdict f ≡ next_verdict f c
said-verdict f c is = go f.dropped refl
  where
    go : (b : Bool) → f.dropped ≡ b
        → cond f.dropped (Invalid f.rules.limits.line LineTooLong) (next_verdict f (begun_of f)) ≡ next_verdict f c
    go true d = rw d (sym (verdict-long _ _ _ c (dropped-long f c is d)))
    go false d = rw d (ap (next_verdict f) (held-whole f c is d).0)

-- ---- a part of a line

module _ (f g : Reading) (p part : List ℕ) (h : Reads f p) (s : Stores f part g) where
  -- of the first line, all is held
  first-fits : f.lines ≡ 0 → Fits f part g
  first-fits z =
      grind (arith, nat_tests)

  same-header_later : 0 < f.lines → g.header ≡ f.header
  same-header_later z =
      grind (arith, nat_tests)

  grown : Fits f part g → begun_of g ≡ begun_of f ++ part
  grown w =
      grind (arith, nat_tests)

  limit : g.rules.limits.line ≡ f.rules.limits.line
  limit = ap (λ x. x.limits.line) s.rules

  -- what has begun then is that line with the part
  pub IsBegun-stored : IsBegun g (begun p ++ part)
  IsBegun-stored = go s.grows
    where
      go : Fits f part g ⊎ Drops f part g ⊎ StaysDropped f g → IsBegun g (begun p ++ part)
      go (inl w) =
          let whole = held-whole f (begun p) h.begun w.held in
          let short : length (begun p ++ part) ≤ f.rules.limits.line =
          omega (arith, w.short, ap length whole.0, length-append (begun p) part) in
          let now = stored-short f.rules.limits.line (begun p ++ part) short in
          record {
            content = rw limit (grown w ∙ (ap (λ x. x ++ part) whole.0 ∙ sym now.0));
            dropped = rw limit (w.dropped ∙ sym now.1);
          }
      go (inr (inl w)) =
          let whole = held-whole f (begun p) h.begun w.held in
          let long : f.rules.limits.line < length (begun p ++ part) =
          omega (arith, w.long, ap length whole.0, length-append (begun p) part) in
          let now = stored-long f.rules.limits.line (begun p ++ part) long in
          let later = goes_on-later f.rules f.lines w.lenient in
          record {
            content = rw limit (begun_of-later g (omega (arith, s.lines, later)) ∙ (w.line.elements ∙ sym now.0));
            dropped = rw limit (w.dropped ∙ sym now.1);
          }
      go (inr (inr w)) =
          let before = dropped-long f (begun p) h.begun w.0 in
          let long : f.rules.limits.line < length (begun p ++ part) =
          omega (arith, before, length-append (begun p) part) in
          let now = stored-long f.rules.limits.line (begun p ++ part) long in
          let was = stored-long f.rules.limits.line (begun p) before in
          record {
            content = rw w.1 (h.begun.content ∙ (was.0 ∙ sym now.0));
            dropped = rw w.1 (w.0 ∙ sym now.1);
          }

  lenient-stored : g.dropped ≡ true → is_lenient g ≡ true
  lenient-stored d =
      grind (arith, nat_tests)

  -- the most that was held of later lines
  peak-stored : 0 < f.lines
      → g.line.peak ≡ max (greatest (held_length f.rules.limits) (later_of (closed p)))
      (held_length f.rules.limits (begun p ++ part))
  peak-stored z = go s.grows
    where
      some : 0 < length (closed p)
      some = omega (arith, h.lines, z)

      before : f.line.peak ≡ max (greatest (held_length f.rules.limits) (later_of (closed p)))
          (held_length f.rules.limits (begun p))
      before = rw (begun_after-some (closed p) (begun p) some) at h.line_peak

      joined : length (begun p ++ part) ≡ length (begun p) + length part
      joined = length-append _ _

      go : Fits f part g ⊎ Drops f part g ⊎ StaysDropped f g
          → g.line.peak ≡ max (greatest (held_length f.rules.limits) (later_of (closed p)))
          (held_length f.rules.limits (begun p ++ part))
      go (inl w) =
          let whole = held-whole f _ h.begun w.held in
          omega (
            arith,
            (w.later z).0.peak,
            before,
            (ap length (sym (begun_of-later f z) ∙ whole.0)),
            w.short,
            ap length whole.0,
            length-append f.line.elements part,
            joined,
          )
      go (inr (inl w)) =
          let whole = held-whole f (begun p) h.begun w.held in
          omega (
            arith,
            w.line.peak,
            w.long,
            ap length whole.0,
            joined,
            greatest-held f.rules.limits (later_of (closed p)),
          )
      go (inr (inr w)) = omega (arith, ap (λ x. x.line.peak) w.1, before, dropped-long f (begun p) h.begun w.0, joined)

  line_within-stored : IsWithin g.line
  line_within-stored =
      grind (arith, nat_tests)

  pub Reads-stored : NoLf part → Reads g (p ++ part)
  Reads-stored n = record {
    lines = s.lines ∙ h.lines ∙ ap length (sym more);
    begun = rw (begun-more p part n) IsBegun-stored;
    lenient = lenient-stored;
    header = header (zero_or f.lines);
    line = line (zero_or f.lines);
    counted = rw (more, s.rules, s.kept, s.refused) h.counted;
    peak = peak (zero_or f.lines);
    line_peak = line_peak (zero_or f.lines);
    header_within = header_within (zero_or f.lines);
    line_within = line_within-stored;
  }
    where
      more : closed (p ++ part) ≡ closed p
      more = closed-more p part n

      nothing : stored g.rules.limits.line [] ≡ []
      nothing = (stored-short g.rules.limits.line [] (omega arith)).0

      header : (f.lines ≡ 0) ⊎ (0 < f.lines) → g.header.elements ≡ first_content (p ++ part)
      header (inl z) =
          let none : closed p ≡ [] = nil_from_length (closed p) (sym h.lines ∙ z) in
          let w = first-fits z in
          let whole = held-whole f (begun p) h.begun w.held in
          rw (more, begun-more p part n, none)
          ((w.first z).0.elements ∙ ap (λ x. x ++ part) (sym (begun_of-first f z) ∙ whole.0))
      header (inr z) = ap (λ x. x.elements) (same-header_later z)
          ∙ (h.header ∙ (first_of-some (closed p) (begun p) (begun (p ++ part)) (omega (arith, h.lines, z))
          ∙ ap (λ x. first_of x (begun (p ++ part))) (sym more)))

      line : (f.lines ≡ 0) ⊎ (0 < f.lines) → g.line.elements ≡ stored g.rules.limits.line (begun_later (p ++ part))
      line (inl z) =
          let none : closed p ≡ [] = nil_from_length (closed p) (sym h.lines ∙ z) in
          let before = rw none at h.line in
          rw (more, none) (ap (λ x. x.elements) ((first-fits z).first z).1
          ∙ (before ∙ ((stored-short f.rules.limits.line [] (omega arith)).0 ∙ sym nothing)))
      line (inr z) =
          let some : 0 < length (closed p) = omega (arith, h.lines, z) in
          rw (more, begun-more p part n, begun_after-some (closed p) (begun p ++ part) some)
          (sym (begun_of-later g (omega (arith, s.lines, z))) ∙ IsBegun-stored.content)

      peak : (f.lines ≡ 0) ⊎ (0 < f.lines) → g.header.peak ≡ length g.header.elements
      peak (inl z) = let b = ((first-fits z).first z).0 in
          rw (b.peak, b.elements, h.peak) (omega (arith, length-append f.header.elements part))
      peak (inr z) = rw (same-header_later z) h.peak

      line_peak : (f.lines ≡ 0) ⊎ (0 < f.lines)
          → g.line.peak ≡ max (greatest (held_length g.rules.limits) (later_of (closed (p ++ part))))
          (held_length g.rules.limits (begun_later (p ++ part)))
      line_peak (inl z) =
          let none : closed p ≡ [] = nil_from_length (closed p) (sym h.lines ∙ z) in
          let before = rw none at h.line_peak in
          rw (more, none, s.rules) (ap (λ x. x.peak) ((first-fits z).first z).1 ∙ before)
      line_peak (inr z) =
          let some : 0 < length (closed p) = omega (arith, h.lines, z) in
          rw (more, begun-more p part n, begun_after-some (closed p) (begun p ++ part) some, s.rules) (peak-stored z)

      header_within : (f.lines ≡ 0) ⊎ (0 < f.lines) → IsWithin g.header
      header_within (inl z) = ((first-fits z).first z).0.within
      header_within (inr z) = rw (same-header_later z) h.header_within

-- ---- the same but for the room for later lines and its failed growths

pub left-same : (f g : Reading) → g ≡ f → IsLeft f g
left-same f g e = rw e (record { room = λ x. x; same = refl })

pub Reads-left : (f g : Reading) (p : List ℕ) → IsLeft f g → Reads f p → Reads g p
Reads-left f g p left h = rw left.same (record {
  lines = h.lines;
  begun = record { content = h.begun.content; dropped = h.begun.dropped };
  lenient = h.lenient;
  header = h.header;
  line = h.line;
  counted = h.counted;
  peak = h.peak;
  line_peak = h.line_peak;
  header_within = h.header_within;
  line_within = record { below_peak = h.line_within.below_peak; below_limit = h.line_within.below_limit };
})

pub length-map_lines : (cs : List (List ℕ)) → length (map ended_line cs) ≡ length cs
length-map_lines cs = length-map _ _

pub map_lines-append : (cs ds : List (List ℕ)) → map ended_line (cs ++ ds) ≡ map ended_line cs ++ map ended_line ds
map_lines-append cs ds = map-append ended_line cs ds

-- ---- the line that comes next

module _ (f : Reading) (p : List ℕ) (h : Reads f p) where
  before : List Line
  before = map ended_line (closed p)

  number : f.lines + 1 ≡ length (map ended_line (closed p)) + 1
  number = omega (arith, h.lines, length-map_lines (closed p))

  -- what hangs on its number and, if it is not the first, on the header, by what is held and by the lines before it
  next-same : {X : Type 0} (say : ℕ → Tree → X) → ((x y : Tree) → say 1 x ≡ say 1 y)
      → say (f.lines + 1) (held_header f)
      ≡ say (length (map ended_line (closed p)) + 1) (header_of f.rules (map ended_line (closed p)))
  next-same say first = ap (λ n. say n (held_header f)) number ∙ go (closed p) refl
    where
      go : (cs : List (List ℕ)) → closed p ≡ cs
          → say (length (map ended_line (closed p)) + 1) (held_header f)
          ≡ say (length (map ended_line (closed p)) + 1) (header_of f.rules (map ended_line (closed p)))
      go [] e = rw e (first _ _)
      go (d ∷ ds) e = rw (h.header, e)

  -- so its verdict, and the item that it is
  pub next-verdict : (c : List ℕ) → next_verdict f c ≡ verdict f.rules (map ended_line (closed p)) c
  next-verdict c = next-same (λ n x. verdict_at f.rules n x c) (λ x y. verdict-first _ x y c)

  pub next-item : (l : Line) → next_item f l ≡ item_after f.rules (map ended_line (closed p)) l
  next-item l = next-same (λ n x. item_at f.rules.limits.depth n x l) (λ x y. refl)

-- ---- what is kept

-- the results after one more line
pub closed-next : (rules : Rules) (p : List ℕ) → rulings_closed rules (p ++ 10 ∷ []) ≡ rulings_closed rules p
    ++ ruling_after rules (map ended_line (closed p)) (ended_line (begun p)) ∷ []
closed-next rules p =
    ap (λ cs. rulings rules [] (map ended_line cs)) (closed-lf p _)
    ∙ ap (rulings rules []) (map_lines-append _ _)
    ∙ rulings-next _ _ _

-- one item more, if it is put, is one feature more, if it is no header
count-feature : (put later : Bool) (i : Item) (n : ℕ) (xs : List Item) → is_feature i ≡ later
    → n ≡ length (filter is_feature xs)
    → cond (put && later) (n + 1) n ≡ length (filter is_feature (xs ++ cond put (i ∷ []) []))
count-feature true true i n xs e h =
    rw (filter-append, e) (omega (arith, length-append (filter is_feature xs) (i ∷ [])))
count-feature true false i n xs e h = rw (filter-append is_feature xs (i ∷ []), e, append-nil (filter is_feature xs)) h
count-feature false later i n xs e h = rw (append-nil xs) h

-- a line after others is a feature, and the first one is none
pub after-feature : (rules : Rules) (before : List Line) (l : Line)
    → is_feature (item_after rules before l) ≡ nat_lt 0 (length before)
after-feature rules [] l = refl
after-feature rules (x ∷ xs) l =
    let no_header : eqb (suc (length xs) + 1) 1 ≡ false = grind (arith, nat_tests) in
    let later : nat_lt 0 (suc (length xs)) ≡ true = grind (arith, nat_tests) in
    rw (no_header, later)

-- so many more, or not
count-more : (b : Bool) (n : ℕ) → cond b (n + 1) n ≡ n + cond b 1 0
count-more true n = refl
count-more false n = omega arith

-- the counts after one line more
pub Counted-next : (f g : Reading) (xs : List Line) (l : Line) (put refused : Bool) → f.lines ≡ length xs
    → AreCounted (rulings f.rules [] xs) f.kept f.refused → EndsLine put refused f g
    → (ruling_after f.rules xs l).end ≡ None → put ≡ (ruling_after f.rules xs l).kept
    → length (ruling_after f.rules xs l).reports ≡ cond refused 1 0
    → AreCounted (rulings f.rules [] (xs ++ l ∷ [])) g.kept g.refused
Counted-next f g xs l put refused n h s fine k bad =
    let r = ruling_after f.rules xs l in
    let rs = rulings f.rules [] xs in
    rw (rulings-next) (record {
      good = rw (end-append, h.good, fine);
      kept =
          rw (s.kept, kept_of-append, ← k, n)
          (count-feature _ _ (item_after f.rules xs l) _ (kept_of rs)
          (after-feature f.rules xs l) h.kept);
      refused =
          omega (
            arith,
            s.refused,
            count-more refused f.refused,
            h.refused,
            bad,
            ap length (flat_map-append (λ (z : Ruling). z.reports) rs (r ∷ [])),
            length-append (reported_of rs) (r.reports ++ []),
            ap length (append-nil r.reports),
          );
    })

pub greatest-append : (measure : List ℕ → ℕ) (cs : List (List ℕ)) (c : List ℕ)
    → greatest measure (cs ++ c ∷ []) ≡ max (greatest measure cs) (measure c)
greatest-append measure [] c = omega arith
greatest-append measure (d ∷ cs) c = omega (arith, greatest-append measure cs c)

pub max-zero : (n : ℕ) → max n 0 ≡ n
max-zero n = omega arith

-- the greatest of later contents by a measure of which nothing has 0, after one line more
pub greatest-later : (measure : List ℕ → ℕ) → measure [] ≡ 0 → (cs : List (List ℕ)) (b : List ℕ)
    → max (greatest measure (later_of (cs ++ b ∷ []))) (measure []) ≡ max (greatest measure (later_of cs))
    (measure (begun_after cs b))
greatest-later measure none [] b = refl
greatest-later measure none (c ∷ cs) b = omega (arith, greatest-append measure cs b, none)

pub held-nothing : (limits : LimitPair) → held_length limits [] ≡ 0
held-nothing limits = omega arith

pub Reads-ended : (f g : Reading) (p : List ℕ) (put refused : Bool) → Reads f p → EndsLine put refused f g
    → (ruling_after f.rules (map ended_line (closed p)) (ended_line (begun p))).end ≡ None
    → put ≡ (ruling_after f.rules (map ended_line (closed p)) (ended_line (begun p))).kept
    → length (ruling_after f.rules (map ended_line (closed p)) (ended_line (begun p))).reports ≡ cond refused 1 0
    → Reads g (p ++ 10 ∷ [])
Reads-ended f g p put refused h s fine k bad = record {
  lines = rw (closed-lf, s.lines, h.lines) (sym (length-append _ _));
  begun = rw (begun-lf)
      (record {
        content = begun_of-later g (omega arith) ∙ s.line.elements ∙ sym nothing.0;
        dropped = s.dropped ∙ sym nothing.1;
      });
  lenient = λ d. cc;
  header = rw (closed-lf, begun-lf, s.header) (h.header ∙ sym (first_of-lf (closed p) (begun p)));
  line = rw (closed-lf, begun-lf, begun_after-empty)
      (s.line.elements ∙ sym nothing.0);
  counted =
      rw (closed-lf, map_lines-append, s.rules)
      (Counted-next f g _ _ _ _
      (h.lines ∙ sym (length-map_lines _)) h.counted s fine k bad);
  peak = rw s.header h.peak;
  line_peak =
      rw (closed-lf, begun-lf, begun_after-empty, s.rules)
      (s.line.peak ∙ ap (λ n. max n 0) h.line_peak ∙ max-zero _
      ∙ sym (greatest-later _ (held-nothing f.rules.limits) _ _));
  header_within = rw s.header h.header_within;
  line_within = s.line.within;
}
  where
    nothing : (stored g.rules.limits.line [] ≡ []) × (ltb g.rules.limits.line 0 ≡ false)
    nothing = stored-short _ _ (omega arith)
