-- The good lines of a text, and what is kept of them.
use Rattle.cj_stream.proofs.Common.{Complete, End, Line, List, None, Option, Reason, Refused, Rules, Some, [], arith, drop, ending, ending_of, good, good_from, is_kept, length, lines, refl, refusal_in, ruling_after, rulings, slice_get, suc, true, unwrap_or, verdict, zero, ℕ, ◌++◌, ◌+◌, ◌∷◌, ◌≡◌, ap, append-nil, append_assoc, length-append, nat_tests, refusal_from, refusal_of, sym, take-append-drop, ◌∙◌, ◌≤◌, Bool, Invalid, IsExact, Peaks, Tree, Verdict, exact_peaks, false, goes_on, is_readable, later_of, list_all, map, reported, reported_from, reports_of, take, verdict_at, ◌<◌, Judgement, item_after, kept_from, moved_end, moved_report, option_map, spelled, text_verdict}
use Rattle.cj_stream.proofs.VerdictLemmas.{good-all, refusal-good, refusal-kind, good-append, good-none, good-take, refusal-append, refusal-both, and-both, refusal-step, before-moved, end-moved, kept_of-moved, moved, reported_of-moved}
use Rattle.cj_stream.specs.IsGood.{NoneRefused, AreGood, EndsWell, EndsAfter}
use Rattle.std.proofs.Common.{eqb, ltb}
use Rattle.cj_spans.proofs.Judgements.{judgement}

-- ---- the good lines of a text, and what is kept of them

pub some_of : (o : Option End) (m place : ℕ) (reason : Reason) → unwrap_or o Complete ≡ Refused m place reason
    → o ≡ Some (Refused m place reason)
some_of o m place reason h = grind arith

-- no line of a text that ends well is the end
pub complete-none : (rules : Rules) (ls : List Line) → ending_of rules ls ≡ Complete → refusal_in rules ls ≡ None
complete-none rules [] h = refl
complete-none rules (l ∷ ls) h = grind (arith, refusal-kind)

-- so all lines are good
pub good-complete : (rules : Rules) (r : List ℕ) → ending rules r ≡ Complete → good rules r ≡ lines r
good-complete rules r e = good-all _ _ _ (complete-none _ _ e)

-- the end is the first refusal that is one
pub ending-refused : (rules : Rules) (ls : List Line) (e : End) → refusal_in rules ls ≡ Some e → ending_of rules ls ≡ e
ending-refused rules [] e h = cc
ending-refused rules (l ∷ ls) e h = rw h

-- of a text that is refused, the refused line comes after the good ones
pub good-refused : (rules : Rules) (r : List ℕ) (number place : ℕ) (reason : Reason)
    → ending rules r ≡ Refused number place reason → number ≡ length (good rules r) + 1
good-refused rules r number place reason e = go (lines r) e
  where
    go : (ls : List Line) → ending_of rules ls ≡ Refused number place reason
        → number ≡ length (good_from rules [] ls) + 1
    go [] h = grind arith
    go (l ∷ ls) h =
        omega (
          arith,
          refusal-good rules [] number place reason (l ∷ ls)
              (some_of (refusal_in rules (l ∷ ls)) number place reason h),
        )

pub drop-next : (ls : List Line) (n : ℕ) (l : Line) → slice_get ls n ≡ Some l → (rest : List Line)
    × (drop n ls ≡ l ∷ rest)
drop-next [] n l h = cc
drop-next (x ∷ ls) zero l h = (ls, grind arith)
drop-next (x ∷ ls) (suc n) l h = drop-next ls n l h

-- a line that is kept is good
pub kept-head : (rules : Rules) (before : List Line) (l : Line) (rest : List Line)
    → is_kept (verdict rules before l.content) ≡ true
    → rulings rules before (good_from rules before (l ∷ rest)) ≡ ruling_after rules before l ∷ rulings rules
    (before ++ l ∷ []) (good_from rules (before ++ l ∷ []) rest)
kept-head rules before l rest h = grind arith

-- ---- the good lines are the longest prefix of the lines of which none is refused

module _ (rules : Rules) where
  each-none : (b ls : List Line)
      → ((before : List Line) (l : Line) (after : List Line) → ls ≡ before ++ l ∷ after
      → refusal_of rules (length (b ++ before) + 1) (verdict rules (b ++ before) l.content) ≡ None)
      → refusal_from rules b ls ≡ None
  each-none b [] h = refl
  each-none b (x ∷ ls) h =
      rw (rw (append-nil b) at (h [] x ls refl)) (each-none (b ++ x ∷ []) ls
      (λ before l after e. rw (append_assoc b (x ∷ []) before) (h (x ∷ before) l after (ap (λ z. x ∷ z) e))))

  pub none-refused : (ls : List Line) → refusal_in rules ls ≡ None → NoneRefused rules ls
  none-refused ls h before l after e = let k = rw e at h in grind (arith, refusal-both)

  refused-none : (ls : List Line) → NoneRefused rules ls → refusal_in rules ls ≡ None
  refused-none ls h = each-none _ _ h

  -- the line after the good lines is refused
  stops : (b : List Line) (l : Line) (ls : List Line) → good_from rules b (l ∷ ls) ≡ []
      → (e : End) × (refusal_of rules (length b + 1) (verdict rules b l.content) ≡ Some e)
      × (refusal_from rules b (l ∷ ls) ≡ Some e)
  stops b l ls h =
      grind (arith, nat_tests)

  -- a list that a longer one begins with, and that is as long, is that one
  no-more : (xs ys : List Line) → length (xs ++ ys) ≤ length xs → ys ≡ []
  no-more xs [] h = refl
  no-more xs (y ∷ ys) h = grind (arith, length-append)

  module _ (s : List ℕ) where
    pub good-are : AreGood rules s (good rules s)
    good-are = record {
      front =
          let n = length (good rules s) in
          record {
            rest = drop n (lines s);
            whole = sym (take-append-drop n _) ∙ ap (λ z. z ++ drop n (lines s)) (good-take _ _ _);
          };
      unrefused = none-refused _ (good-none _ _ (lines s));
      longest = λ others front none. (
          let k = good-append rules [] others front.rest (refused-none others none) in
          let same : good rules s ≡ others ++ good_from rules others front.rest =
          ap (λ z. good_from rules [] z) front.whole ∙ k in
          rw same (omega (arith, length-append others (good_from rules others front.rest))));
    }

    pub good-only : (ls : List Line) → AreGood rules s ls → ls ≡ good rules s
    good-only ls h =
        let same = ap (good_from rules []) h.front.whole
        ∙ good-append rules [] ls h.front.rest (refused-none ls h.unrefused) in
        let none = no-more _ _ (rw same at (h.longest (good rules s) good-are.front good-are.unrefused)) in
        sym (same ∙ ap (λ z. ls ++ z) none ∙ append-nil ls)

    -- the end by the lines
    well : (ls all : List Line) → all ≡ ls → refusal_in rules ls ≡ None → EndsWell ls (ending_of rules all)
    well [] all same h = rw same
    well (l ∷ ls) all same h = rw same (rw h)

    pub ends-after : (rest : List Line) → lines s ≡ good rules s ++ rest
        → EndsAfter rules (good rules s) rest (ending rules s)
    ends-after [] h = well _ _ (h ∙ append-nil (good rules s)) (good-none _ _ _)
    ends-after (next ∷ rest) h =
        let none = good-none _ _ _ in
        let same =
        ap (good_from rules []) h ∙ good-append rules [] (good rules s) (next ∷ rest) none in
        let short : length (good rules s ++ good_from rules (good rules s) (next ∷ rest)) ≤ length (good rules s) =
        omega (arith, ap length same) in
        let stop = stops _ _ _
        (no-more _ _ short) in
        stop.1 ∙ ap Some (sym (ending-refused _ _ _ (ap (refusal_in rules) h
        ∙ refusal-append rules [] (good rules s) (next ∷ rest) none ∙ stop.2)))

-- ---- what the good lines are where reading goes on after invalid ones, and where it does not

-- where reading goes on, no later line is the end
lenient-none : (rules : Rules) (n : ℕ) (v : Verdict) → rules.options.keep_going ≡ true → 1 < n
    → refusal_of rules n v ≡ None
lenient-none rules n (Invalid place reason) on later = grind (arith, nat_tests)
lenient-none rules n other on later = refl

later-none : (rules : Rules) (before ls : List Line) → rules.options.keep_going ≡ true → 0 < length before
    → refusal_from rules before ls ≡ None
later-none rules before [] on some = refl
later-none rules before (l ∷ ls) on some =
    grind (
      arith,
      lenient-none rules (length before + 1) (verdict rules before l.content) on,
      later-none rules (before ++ l ∷ []) ls on,
      length-append before (l ∷ []),
    )

pub all-good : (rules : Rules) (s : List ℕ) → rules.options.keep_going ≡ true
    → refusal_in rules (take 1 (lines s)) ≡ None → good rules s ≡ lines s
all-good rules s on first = good-all rules [] (lines s) (go (lines s) first)
  where
    go : (ls : List Line) → refusal_in rules (take 1 ls) ≡ None → refusal_in rules ls ≡ None
    go [] h = refl
    go (l ∷ ls) h = let now = refusal-step (refusal_of rules 1 (verdict rules [] l.content)) None h in
        rw now.0 (later-none rules (l ∷ []) ls on (omega arith))

pub none-good : (rules : Rules) (s : List ℕ) (e : End) → refusal_in rules (take 1 (lines s)) ≡ Some e
    → good rules s ≡ []
none-good rules s e h =
    grind (arith, nat_tests)

-- where it does not, a good line is not refused
never : (rules : Rules) (n : ℕ) → rules.options.keep_going ≡ false → goes_on rules n ≡ false
never rules n off = grind arith

silent : (rules : Rules) (n : ℕ) (v : Verdict) → rules.options.keep_going ≡ false → refusal_of rules n v ≡ None
    → reports_of n v ≡ []
silent rules n (Invalid place reason) off h = grind (arith, never)
silent rules n other off h = refl

unreported_from : (rules : Rules) (before ls : List Line) → rules.options.keep_going ≡ false
    → reported_from rules before (good_from rules before ls) ≡ []
unreported_from rules before [] off = refl
unreported_from rules before (l ∷ ls) off =
    grind (
      arith,
      silent rules (length before + 1) (verdict rules before l.content) off,
      unreported_from rules (before ++ l ∷ []) ls off,
    )

pub never-reported : (rules : Rules) (s : List ℕ) → rules.options.keep_going ≡ false → reported rules s ≡ []
never-reported rules s off = unreported_from _ _ _ off

-- ---- what can be read

-- a content that is not refused is blank or spells a tree
readable-verdict : (rules : Rules) (n : ℕ) (header : Tree) (c : List ℕ) → goes_on rules n ≡ false
    → refusal_of rules n (verdict_at rules n header c) ≡ None → is_readable rules.limits c ≡ true
unfolding verdict_at
readable-verdict rules n header c off h = grind arith

all-readable : (rules : Rules) (before ls : List Line) → rules.options.keep_going ≡ false
    → refusal_from rules before ls ≡ None → list_all (is_readable rules.limits) (map (λ l. l.content) ls) ≡ true
all-readable rules before [] off h = refl
all-readable rules before (l ∷ ls) off h =
    let both = refusal-step _
    _ h in
    let now = readable-verdict _ _ _ l.content
    (never rules (length before + 1) off) both.0 in
    rw (now, all-readable rules (before ++ l ∷ []) ls off both.1) refl

later-all : (p : List ℕ → Bool) (cs : List (List ℕ)) → list_all p cs ≡ true → list_all p (later_of cs) ≡ true
later-all p [] h = refl
later-all p (c ∷ cs) h = (and-both _ _ h).1

pub usual-exact : (rules : Rules) (s : List ℕ) (peaks : Peaks) → rules.options.keep_going ≡ false
    → ending rules s ≡ Complete → IsExact rules.limits s peaks → peaks ≡ exact_peaks rules.limits s
usual-exact rules s peaks off done h =
    h.legible (later-all (is_readable rules.limits) (map (λ l. l.content) (lines s))
    (all-readable _ _ _ off (complete-none _ _ done)))

-- ---- what is said of lines behind a header does not hang on the lines between, but for the numbers

module _ (rules : Rules) where
  -- ---- one line

  -- by any two numbers of later lines
  text-same : {c : List ℕ} {d : ℕ} (n m : ℕ) (header : Tree) (j : Judgement c d) → eqb n 1 ≡ false → eqb m 1 ≡ false
      → text_verdict rules n header j ≡ text_verdict rules m header j
  text-same n m header (spelled t json shallow) e f = rw (e, f)
  text-same n m header other e f = refl

  verdict-same : (n m : ℕ) (header : Tree) (c : List ℕ) → 1 < n → 1 < m
      → verdict_at rules n header c ≡ verdict_at rules m header c
  unfolding verdict_at
  verdict-same n m header c p q =
      let n_later : ltb 1 n ≡ true = grind (arith, nat_tests) in
      let m_later : ltb 1 m ≡ true = grind (arith, nat_tests) in
      let n_other : eqb n 1 ≡ false = grind (arith, nat_tests) in
      let m_other : eqb m 1 ≡ false = grind (arith, nat_tests) in
      rw (n_later, m_later, text-same n m header (judgement c rules.limits.depth) n_other m_other) refl

  -- behind a header and any other lines
  pub after-same : (l : Line) (xs ys : List Line) (c : List ℕ) → verdict rules (l ∷ xs) c ≡ verdict rules (l ∷ ys) c
  after-same l xs ys c = verdict-same _ _ _ c (omega arith) (omega arith)

  item-same : (l : Line) (xs ys : List Line) (x : Line) → item_after rules (l ∷ xs) x ≡ item_after rules (l ∷ ys) x
  item-same l xs ys x = grind (arith, nat_tests)

  module _ (l : Line) where
    ruling-moved : (xs ys : List Line) (z : Line) (k : ℕ) → length xs ≡ length ys + k
        → ruling_after rules (l ∷ xs) z ≡ moved k (ruling_after rules (l ∷ ys) z)
    ruling-moved xs ys z k e =
        grind (arith, nat_tests, after-same, item-same)

    rulings-moved : (xs ys zs : List Line) (k : ℕ) → length xs ≡ length ys + k
        → rulings rules (l ∷ xs) zs ≡ map (moved k) (rulings rules (l ∷ ys) zs)
    rulings-moved xs ys [] k e = refl
    rulings-moved xs ys (z ∷ zs) k e =
        rw (
          ruling-moved xs ys z k e,
          rulings-moved (xs ++ z ∷ []) (ys ++ z ∷ []) zs k
              (omega (arith, e, length-append xs (z ∷ []), length-append ys (z ∷ []))),
        ) refl

    -- some lines between
    module _ (xs zs : List Line) where
      behind : rulings rules (l ∷ xs) zs ≡ map (moved (length xs)) (rulings rules (l ∷ []) zs)
      behind = rulings-moved _ _ _ _ (omega arith)

      pub refusal-moved : refusal_from rules (l ∷ xs) zs
          ≡ option_map (moved_end (length xs)) (refusal_from rules (l ∷ []) zs)
      refusal-moved = rw behind (end-moved _ (rulings rules (l ∷ []) zs))

      pub good-moved : good_from rules (l ∷ xs) zs ≡ good_from rules (l ∷ []) zs
      good-moved = rw behind (before-moved _ _)

      pub kept-moved : kept_from rules (l ∷ xs) zs ≡ kept_from rules (l ∷ []) zs
      kept-moved = rw behind (kept_of-moved _ (rulings rules (l ∷ []) zs))

      pub reported-moved : reported_from rules (l ∷ xs) zs
          ≡ map (moved_report (length xs)) (reported_from rules (l ∷ []) zs)
      reported-moved = rw behind (reported_of-moved _ (rulings rules (l ∷ []) zs))
