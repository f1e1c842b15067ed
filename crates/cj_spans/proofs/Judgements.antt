-- The judgement on a line, the most containers that are open, and worked lines.
use Rattle.cj_spans.proofs.Common.{◌≡◌, ℕ, zero, suc, ◌+◌, ◌<◌, ◌≤◌, List, [], ◌∷◌, length, Bool, true, false, Option, Some, None, refl, sym, ap, arith, ◌∙◌, inl, inr, ltb, ltb-true, nat_tests, Token, After, byte, Json, Tree, nest, SyntaxAt, DeepAt, NowhereDeep, Judgement, spelled, broken, sunk, SaySame, IsReservedAnswerOf, LineFault, Syntax, TooDeep, Phase, State, state, between, start, step, settle, Reaches, here, on, Sticks, ◌⊎◌, Err, cases_lt, BoundedList, JsonPrefix, white, IsDeepest, HasPeakAt, option_and_then, IsSomeAnd}
use Rattle.std.specs.Prelude.{IsOk, IsErrOf, Result}
use Rattle.cj_spans.proofs.Spellings.{none_some, some_same}
use Rattle.cj_spans.proofs.Facts.{next_place, lawful_reaches, goes, settled}
use Rattle.cj_spans.proofs.Sound.{inv_reaches, no_white, inv_front}
use Rattle.cj_spans.proofs.Verdicts.{spells, nest_of, sticks_syntax, sticks_nowhere, sinks_deep, json_only, one_deep, one_syntax, json_no_syntax, json_nowhere, Ran, ran_sinks, ran_sticks, not_deeper, Spells}

-- ---- each line is a JSON text within the depth limit, or has the place of a fault: the machine finds out which

-- ---- the machine over a whole line

module _ (b : List ℕ) (d : ℕ) where
  -- the machine comes no further
  unfoldable pub ends_at : (i : ℕ) (s : Sticks b start i) → s.last.deepest ≤ d → Judgement b d
  ends_at i s h = broken i (sticks_syntax s) (sticks_nowhere b {d = d} i (record { sticks = s; shallow = h }))

  module _ (s : State) (r : Reaches b start s) (h : s.deepest ≤ d) where
    -- it has read the line, and may not end there
    unfoldable pub no_end : (o : Option State) → settle s ≡ o → s.place ≡ length b
        → ((ts : List Token) (p : ℕ) → o ≡ Some (state (between After) [] ts (length b) p) → ⊥) → Judgement b d
    no_end o k e no_text =
        ends_at _ (record {
          last = s;
          reached = r;
          at = e;
          within = omega arith;
          stuck = inr (refl, λ ts p g. no_text ts p (sym k ∙ g));
        }) h

    pub other_phase : (f : Phase) (ks : List ℕ) (ts us : List Token) (i j p q : ℕ) → (f ≡ between After → ⊥)
        → Some (state f ks ts i p) ≡ Some (state (between After) [] us j q) → ⊥
    other_phase f ks ts us i j p q no_text g = no_text (ap (λ u. u.phase) (some_same _ _ g))

    pub some_open : (k : ℕ) (ks : List ℕ) (ts us : List Token) (i j p q : ℕ)
        → Some (state (between After) (k ∷ ks) ts i p) ≡ Some (state (between After) [] us j q) → ⊥
    some_open k ks ts us i j p q g = grind (arith, some_same)

    unfoldable pub text_of : (ts : List Token) (i p : ℕ) → settle s ≡ Some (state (between After) [] ts i p)
        → s.place ≡ length b → Judgement b d
    text_of ts i p k e =
        let same = settled s _ k in
        let at : i ≡ length b = sym same.place ∙ e in
        let whole : settle s ≡ Some (state (between After) [] ts (length b) p) =
        k ∙ ap (λ n. Some (state (between After) [] ts n p)) at in
        let t = spells (inv_reaches r) ts p whole in
        let deepest : p ≡ nest t.tree = nest_of t.tree ts p t.json r whole in
        let deep : s.deepest ≡ p = same.deepest in
        spelled t.tree t.json (omega arith)

    unfoldable pub by_end : (f : Phase) (ks : List ℕ) (ts : List Token) (i p : ℕ) → settle s ≡ Some (state f ks ts i p)
        → s.place ≡ length b → Judgement b d
    by_end (between After) [] ts i p k e = text_of ts i p k e
    by_end (between After) (x ∷ ks) ts i p k e = no_end _ k e (λ us q g. some_open x ks ts us i _ p q g)
    by_end f ks ts i p k e =
        no_end _ k e (λ us q g. other_phase f ks ts us i _ p q (λ (n : f ≡ between After). cc) g)

    unfoldable pub at_end : (o : Option State) → settle s ≡ o → s.place ≡ length b → Judgement b d
    at_end None k e = no_end None k e (λ ts p g. none_some _ g)
    at_end (Some u) k e = by_end u.phase u.stack u.tokens u.place u.deepest k e

    -- one container too many
    unfoldable pub sinks : (u : State) → step (byte b s.place) s ≡ Some u → s.place < length b → d < u.deepest
        → Judgement b d
    sinks u k lt deep =
        let lawful = lawful_reaches r in
        let g = goes u _ lawful k in
        let o = lawful.deep in
        let count : length u.stack ≡ suc d = omega arith in
        sunk s.place (sinks_deep {b = b} {d = d} {i = s.place} (record {
          last = s;
          reached = r;
          at = refl;
          within = lt;
          shallow = h;
          deep = rw k count;
        }))

    unfoldable pub by_depth : (n : ℕ)
        → ((u : State) → Reaches b start u → u.deepest ≤ d → u.place + n ≡ length b → Judgement b d)
        → s.place + suc n ≡ length b
        → (u : State) → step (byte b s.place) s ≡ Some u → (deep : Bool) → ltb d u.deepest ≡ deep → Judgement b d
    by_depth n later e u k true deep = sinks u k (omega arith) (ltb-true d u.deepest deep)
    by_depth n later e u k false deep =
        let place = next_place u r k in
        let shallow : u.deepest ≤ d = grind (arith, nat_tests) in
        later u (on s u r k) shallow (omega arith)

    unfoldable pub by_step : (n : ℕ)
        → ((u : State) → Reaches b start u → u.deepest ≤ d → u.place + n ≡ length b → Judgement b d)
        → s.place + suc n ≡ length b → (o : Option State) → step (byte b s.place) s ≡ o → Judgement b d
    by_step n later e None k =
        ends_at s.place (record {
          last = s;
          reached = r;
          at = refl;
          within = omega arith;
          stuck = inl (omega arith, k);
        }) h
    by_step n later e (Some u) k = by_depth n later e u k (ltb d u.deepest) refl

  unfoldable pub over : (n : ℕ) (s : State) → Reaches b start s → s.deepest ≤ d → s.place + n ≡ length b → Judgement b d
  over zero s r h e = at_end s r h (settle s) refl (omega arith)
  over (suc n) s r h e = by_step s r h n (over n) e (step (byte b s.place) s) refl

-- what a line is under a depth limit
unfoldable pub judgement : (b : List ℕ) (d : ℕ) → Judgement b d
judgement b d = over b d (length b) start here (omega arith) (omega arith)

-- and it is no other
pub say_same : {b : List ℕ} {d : ℕ} (j k : Judgement b d) → SaySame j k
say_same {b} (spelled t j n) (spelled u k m) = json_only b u t k j
say_same (spelled t j n) (broken i s h) = json_no_syntax t j s
say_same {b} {d} (spelled t j n) (sunk i s) = json_nowhere b d t j n i s
say_same (broken i s h) (spelled t j n) = json_no_syntax t j s
say_same (broken i s h) (broken k r g) = one_syntax s r
say_same (broken i s h) (sunk k r) = h k r
say_same {b} {d} (sunk i s) (spelled t j n) = json_nowhere b d t j n i s
say_same (sunk i s) (broken k r g) = g i s
say_same (sunk i s) (sunk k r) = one_deep s r

-- what is answered, from what is found
pub answer_of : {b : List ℕ} {d : ℕ} (j : Judgement b d) (r : Result (Unit {0}) LineFault)
    → ((t : Tree) → Json b t → nest t ≤ d → IsOk r)
    → ((i : ℕ) → DeepAt b d i → IsErrOf r (TooDeep i))
    → (NowhereDeep b d → (i : ℕ) → SyntaxAt b i → IsErrOf r (Syntax i)) → IsReservedAnswerOf j r
answer_of (spelled t j n) r tree deep syntax = tree t j n
answer_of (broken i s n) r tree deep syntax = syntax n i s
answer_of (sunk i s) r tree deep syntax = deep i s

-- ---- the most containers that are open in what a pass over a line has read

-- behind some of the bytes that the machine has read, as many containers are open as it tells
record DeepestFront (b : List ℕ) (s : State) : Type 0 where
  place : ℕ
  within : place ≤ s.place
  front : JsonPrefix b 0 place s.deepest

deepest_front : {b : List ℕ} {s : State} → Reaches b start s → DeepestFront b s
deepest_front {b} here = grind (arith, white, no_white)
deepest_front {b} (on t v r h) =
    let g = goes v (byte b t.place) (lawful_reaches r) h in
    elim (cases_lt t.deepest (length v.stack)) [
      | inl l ↦
          let e : length v.stack ≡ v.deepest = omega arith in
          record {
            place = v.place;
            within = omega arith;
            front = rw (← e) (inv_front (inv_reaches (on t v r h)));
          }
      | inr l ↦
          let f = deepest_front r in
          let e : t.deepest ≡ v.deepest = omega arith in
          record {
            place = f.place;
            within = omega arith;
            front = rw (← e) f.front;
          }
    ]

deepest_at : {b : List ℕ} {s : State} {i : ℕ} → Reaches b start s → s.place ≡ i → IsDeepest b i s.deepest
deepest_at r e = grind (arith, deepest_front, not_deeper)

-- the clause of the scan, with the peak that the stack had before it was emptied
pub ran_peak : {b : List ℕ} {old new : BoundedList Token} {old_stack new_stack : BoundedList ℕ}
    {r : Result (Unit {0}) LineFault} (h : Ran b old new old_stack new_stack r) (i : ℕ)
    → (r ≡ Err (Syntax i)) ⊎ (r ≡ Err (TooDeep i)) → HasPeakAt b i old_stack new_stack
ran_peak h i (inl e) = grind (arith, ran_sticks, deepest_at)
ran_peak h i (inr e) = grind (arith, ran_sinks, deepest_at)

-- the same from a peak that is no other
pub peak_from : {b : List ℕ} {i : ℕ} (old empty : BoundedList ℕ) {new : BoundedList ℕ} → empty.peak ≡ old.peak
    → HasPeakAt b i empty new
    → HasPeakAt b i old new
peak_from old empty e h = grind (arith, h.deepest, h.counted)

-- ---- worked lines: the machine's run is computed, and gives the place

-- the state after n bytes
abbrev pub after : List ℕ → ℕ → Option State
after b zero = Some start
after b (suc n) = option_and_then (λ s. step (byte b n) s) (after b n)

record Run (b : List ℕ) (n : ℕ) (s : State) : Type 0 where
  reached : Reaches b start s
  place : s.place ≡ n

run_next : {b : List ℕ} {n : ℕ} {t : State} (s : State) → Run b n t → step (byte b n) t ≡ Some s → Run b (suc n) s
run_next {b} {t} s r h =
    let q : step (byte b t.place) t ≡ Some s = cc (r.place, h) in
    record { reached = on t s r.reached q; place = next_place s r.reached q ∙ ap suc r.place }

run_last : {b : List ℕ} (n : ℕ) (s : State) (o : Option State) → ((t : State) → o ≡ Some t → Run b n t)
    → option_and_then (λ t. step (byte b n) t) o ≡ Some s → Run b (suc n) s
run_last n s None r h = none_some s h
run_last n s (Some t) r h = run_next s (r t refl) h

run : (b : List ℕ) (n : ℕ) (s : State) → after b n ≡ Some s → Run b n s
run b zero s h = grind (arith, some_same, here)
run b (suc n) s h = run_last n s (after b n) (λ t e. run b n t e) h

pub syntax_inside : (b : List ℕ) (n : ℕ) (s : State) → after b n ≡ Some s → n < length b → step (byte b n) s ≡ None
    → SyntaxAt b n
syntax_inside b n s h l stop =
    let r = run b n s h in
    sticks_syntax (record {
      last = s;
      reached = r.reached;
      at = r.place;
      within = omega arith;
      stuck = inl (l, stop);
    })

pub syntax_end : (b : List ℕ) (n : ℕ) (s : State) → after b n ≡ Some s → n ≡ length b
    → ((ts : List Token) (p : ℕ) → settle s ≡ Some (state (between After) [] ts (length b) p) → ⊥) → SyntaxAt b n
syntax_end b n s h l stop =
    let r = run b n s h in
    sticks_syntax (record {
      last = s;
      reached = r.reached;
      at = r.place;
      within = omega arith;
      stuck = inr (l, stop);
    })

pub deep_inside : (b : List ℕ) (n d : ℕ) (s : State) → after b n ≡ Some s → n < length b → s.deepest ≤ d
    → IsSomeAnd (step (byte b n) s) (λ u. length u.stack ≡ suc d) → DeepAt b d n
deep_inside b n d s h l g stop =
    let r = run b n s h in
    sinks_deep (record { last = s; reached = r.reached; at = r.place; within = l; shallow = g; deep = stop })

pub spells_end : (b : List ℕ) (s : State) (us : List Token) (p : ℕ) → after b (length b) ≡ Some s
    → settle s ≡ Some (state (between After) [] us (length b) p) → Spells b us
spells_end b s us p h e = grind (arith, spells, inv_reaches, run)
