-- What the pass over a line says of the line, and in which room.
use Rattle.cj_spans.proofs.Common.{◌≡◌, ℕ, suc, ◌+◌, ◌^◌, ◌<◌, ◌≤◌, List, [], ◌++◌, length, max, IsTrue, Option, Some, None, Ok, Err, refl, sym, ap, subst, arith, rules, ◌∙◌, ◌⊎◌, inl, inr, take-length, eq-or-lt_of_le, cases_lt, IsValidUpTo, BoundedList, Becomes, LineFault, NotUtf8, Syntax, TooDeep, Kind, Token, Ready, After, Tree, scalar, size, nest, byte, atom_at, White, Value, atom, padded, Json, JsonPrefix, IsJsonPrefix, SyntaxAt, stuck, short, DeepAt, NowhereDeep, flatten, spans_of, IsScanOf, KeepsLaw, AreUnmarked, State, state, in_atom, step, settle, end_atom, lex_kind, Reaches, here, on, start, Sticks, SticksAt, SinksAt, Accepts, RunAnswers, Judgement, spelled, broken, sunk, IsAnswerOf, IsReservedAnswerOf, widened_fault}
use Rattle.std.specs.Prelude.{IsSomeAnd, OnOk, IsErrOf, IsOk, IsUtf8, Result, IsErrAnd}
use Rattle.std.proofs.lemmas.Str.{utf8_valid_len-IsValidUpTo}
use Rattle.cj_spans.proofs.Spellings.{none_some, some_same}
use Rattle.cj_spans.proofs.Lists.{rise, rise-nest, length-flatten, spans_of-flatten, run_json}
use Rattle.cj_spans.proofs.Facts.{idle, settled, lawful_reaches, next_place, same_state, state_before}
use Rattle.cj_spans.proofs.Places.{atom_sound}
use Rattle.cj_spans.proofs.Sound.{Context, root, Inv, after_tree, in_scalar, in_name, inv_reaches, no_white, Live, front_runs, inv_front}
use Rattle.cj_spans.proofs.Forests.{json_shown, tree_by_preorder}
use Rattle.cj_spans.proofs.Views.{json_linked, json_unmarked}
use Rattle.std.proofs.lemmas.Result.{err_from_is_err_and}
use Rattle.cj_spans.specs.declared.fault.ScanFault.{ScanFault}

-- ---- what the pass over a line says of the line

-- ---- a line that is read to its end

-- a tree that the line spells, whose tokens these are
pub record Spells (b : List ℕ) (us : List Token) : Type 0 where
  pub tree : Tree
  pub json : Json b tree
  pub tokens : us ≡ flatten 0 tree

root_only : {b : List ℕ} {e : ℕ} {ks : List ℕ} {ts : List Token} → Context b e ks ts → ks ≡ [] → White b 0 e × (ts ≡ [])
root_only (root e w) h = (w, refl)
root_only _ h = cc

spells_at : {b : List ℕ} {e j k : ℕ} (p q : ℕ) {ks : List ℕ} {ts : List Token} (us : List Token) (t : Tree)
    → Context b e ks ts
    → Value b e j t → White b j k → idle After ks (ts ++ flatten (length ts) t) k p ≡ idle After [] us (length b) q
    → Spells b us
spells_at {b} {e} {j} {k} p q {ks} {ts} us t c v w h = grind (arith, root_only, padded)

pub spells : {b : List ℕ} {s : State} → Inv b s → (us : List Token) (q : ℕ)
    → settle s ≡ Some (idle After [] us (length b) q) → Spells b us
spells (after_tree e j k p ks ts t c v w) us q h = spells_at p q us t c v w (some_same _ _ h)
spells {b} (in_scalar e k p ks ts x c w) us q h = by_kind (lex_kind x) refl h
  where
    by_kind : (r : Option Kind) → lex_kind x ≡ r → end_atom After e r (state (in_atom After e x) ks ts k p)
        ≡ Some (idle After [] us (length b) q) → Spells b us
    by_kind None kind h = none_some _ h
    by_kind (Some kd) kind h =
        spells_at p q us (scalar kd (atom_at b e k)) c (atom kd e k (atom_sound w kd kind)) (no_white b k)
        (some_same _ _ h)
spells {b} {s} (in_name e j l k p ks ts us0 x c o ld w0 y w) us q h = grind (arith, none_some, some_same)
spells _ us q h = grind (arith, some_same)

-- two ends of one line are the same
same_end : {b : List ℕ} (x y : State) {s t : State} → Reaches b start s → Reaches b start t → settle s ≡ Some x
    → settle t ≡ Some y → x.place ≡ y.place → x ≡ y
same_end x y {s} {t} r q e f p = grind (arith, same_state, settled, some_same)

-- a line spells one tree at most
pub json_only : (b : List ℕ) (t u : Tree) → Json b t → Json b u → u ≡ t
json_only b t u j k =
    let r = run_json b t j in let q = run_json b u k in
    let e = same_end _ _ q.reached r.reached q.settles r.settles refl in
    let f : flatten 0 u ≡ flatten 0 t = ap (λ s. s.tokens) e in
    tree_by_preorder b u t k j (sym (spans_of-flatten 0 u) ∙ ap spans_of f ∙ spans_of-flatten 0 t)

pub nest_of : {b : List ℕ} (t : Tree) {s : State} (us : List Token) (p : ℕ) → Json b t → Reaches b start s
    → settle s ≡ Some (idle After [] us (length b) p) → p ≡ nest t
nest_of {b} t us p j r h = grind (arith, run_json, same_end, rise, rise-nest)

-- ---- the places of faults

next_stuck : {b : List ℕ} {s u : State} → Reaches b start s → step (byte b s.place) s ≡ None → Reaches b start u
    → u.place ≡ suc s.place → ⊥
next_stuck r n here e = absurd (omega arith)
next_stuck {b} {s} r n (on t v q h) e =
    let z = next_place v q h in
    let d : s ≡ t = same_state r q (omega arith) in
    none_some v (sym n ∙ ap (λ w. step (byte b w.place) w) d ∙ h)

front_before : {b : List ℕ} {s : State} (k : ℕ) → Reaches b start s → k ≤ s.place → IsJsonPrefix b k
front_before k r l =
    let v = state_before k r l in
    record {
      open_count = length v.at.stack;
      front = rw v.place at (inv_front (inv_reaches v.reached));
    }

live_at : (b : List ℕ) (i n : ℕ) → JsonPrefix b 0 i n → Live b start i (n + 0)
live_at b i n f = front_runs f start Ready [] [] 0 tt here

pub sticks_syntax : {b : List ℕ} {i : ℕ} → Sticks b start i → SyntaxAt b i
sticks_syntax {b} {i} a =
    grind (
      arith,
      stuck,
      front_before,
      live_at,
      next_stuck,
      short,
      run_json,
      same_state,
      settled,
      rise,
      a.at,
      a.stuck,
      a.reached,
    )

-- no state that the machine comes to on its way has more containers open
pub not_deeper : {b : List ℕ} {s : State} (d i n : ℕ) → Reaches b start s → s.deepest ≤ d → i ≤ s.place
    → JsonPrefix b 0 i n → d < n → ⊥
not_deeper {b} d i n r h l f g =
    let v = live_at b i n f in
    let w = state_before i r l in
    let e : v.at ≡ w.at = same_state v.reached w.reached (v.place ∙ sym w.place) in
    let a = (lawful_reaches v.reached).deep in
    let q : v.at.deepest ≡ w.at.deepest = cc e in
    absurd (omega arith)

nowhere_deep : {b : List ℕ} {s : State} (d : ℕ) → Reaches b start s → s.deepest ≤ d → (length b ≤ s.place)
    ⊎ (step (byte b s.place) s ≡ None) → NowhereDeep b d
nowhere_deep {b} {s} d r h stop i a =
    elim (cases_lt (suc i) s.place) [
      | inl l ↦ not_deeper d _ _ r h (omega arith) a.deep (omega arith)
      | inr g ↦ elim (eq-or-lt_of_le g) [
        | inl e ↦ not_deeper d _ _ r h (omega arith) a.deep (omega arith)
        | inr l ↦ elim stop [
          | inl e ↦ let w = a.within in absurd (omega arith)
          | inr n ↦
              let v = live_at b _ _ a.deep in
              let w = state_before _ v.reached (omega arith) in
              next_stuck r n w.reached w.place
        ]
      ]
    ]

pub sticks_nowhere : (b : List ℕ) {d : ℕ} (i : ℕ) → SticksAt b d i → NowhereDeep b d
sticks_nowhere b {d} i a = grind (arith, nowhere_deep, a.sticks.at, a.sticks.reached, a.shallow, a.sticks.stuck)

accepts_nowhere : {b : List ℕ} {tokens : BoundedList Token} {old new : BoundedList ℕ} → Accepts b tokens old new
    → NowhereDeep b old.limit
accepts_nowhere {old} a = grind (arith, settled, nowhere_deep, a.settles.settles, old.limit, a.settles.reached)

pub sinks_deep : {b : List ℕ} {d i : ℕ} → SinksAt b d i → DeepAt b d i
sinks_deep {b} {d} {i} a = by_step _ refl a.deep
  where
    by_step : (o : Option State) → step (byte b i) a.last ≡ o → IsSomeAnd o (λ u. length u.stack ≡ suc d) → DeepAt b d i
    by_step None e h = absurd h
    by_step (Some u) e h =
        let q : step (byte b a.last.place) a.last ≡ Some u = cc (a.at, e) in
        let r = on a.last u a.reached q in
        let p : u.place ≡ suc i = next_place u a.reached q ∙ ap suc a.at in
        let f : JsonPrefix b 0 (suc i) (length u.stack) =
        rw p at (inv_front (inv_reaches r)) in
        record {
          within = a.within;
          deep = rw h at f;
          least = λ k l g. not_deeper d (suc k) (suc d) a.reached a.shallow (omega arith) g (omega arith);
        }

-- ---- each line has one verdict

pub one_deep : {b : List ℕ} {d i j : ℕ} → DeepAt b d i → DeepAt b d j → i ≡ j
one_deep {i} {j} x y = grind (arith, y.least, x.deep, x.least, y.deep)

pub fronts_below : {b : List ℕ} {j : ℕ} → SyntaxAt b j → (k : ℕ) → k < j → IsJsonPrefix b (suc k)
fronts_below (stuck l f n) k h = f k h
fronts_below (short e f n) k h = f k h

pub syntax_within : {b : List ℕ} {j : ℕ} → SyntaxAt b j → j ≤ length b
syntax_within (stuck l f n) = omega arith
syntax_within (short e f n) = omega arith

-- there is no fault before another's place
not_earlier : {b : List ℕ} {i j : ℕ} → SyntaxAt b i → SyntaxAt b j → i < j → ⊥
not_earlier (stuck l f n) y h = n (fronts_below y _ h)
not_earlier (short e f n) y h = absurd (omega (arith, syntax_within y))

pub one_syntax : {b : List ℕ} {i j : ℕ} → SyntaxAt b i → SyntaxAt b j → i ≡ j
one_syntax {i} {j} x y = grind (arith, not_earlier)

pub json_no_syntax : {b : List ℕ} {i : ℕ} → (t : Tree) → Json b t → SyntaxAt b i → ⊥
json_no_syntax {b} {i} t j (stuck l f n) =
    let v = run_json b t j in let p = (settled v.at _ v.settles).place in
    n (front_before _ v.reached (omega arith))
json_no_syntax t j (short e f n) = n t j

pub json_nowhere : (b : List ℕ) (d : ℕ) (t : Tree) → Json b t → nest t ≤ d → NowhereDeep b d
json_nowhere b d t j h = grind (arith, run_json, settled, rise-nest, nowhere_deep)

-- ---- the clauses of the scan

-- what a call leaves that began with cleared lists
pub record Cleared {T : Type 0} (old empty : BoundedList T) : Type 0 where
  pub limit : empty.limit ≡ old.limit
  pub peak : empty.peak ≡ old.peak
  pub room : IsTrue old.reserved → IsTrue empty.reserved

pub cleared : {T : Type 0} (old empty : BoundedList T) → Becomes old [] empty → Cleared old empty
cleared old empty c = grind (arith, c.limit, c.room)

module _ {b : List ℕ} {empty new : BoundedList Token} {empty_stack new_stack : BoundedList ℕ}
    (k : KeepsLaw b empty new empty_stack new_stack) (few_bytes : length b ≤ 1073741824)
    (a : Accepts b new empty_stack new_stack) where
  spelled_line : Spells b new.elements
  spelled_line = grind (arith, spells, inv_reaches)

  count : length new.elements ≡ size spelled_line.tree
  count = grind (arith, length-flatten)

  few : size spelled_line.tree < 2 ^ 31
  few = grind (arith, count)

  scan_of : {old : BoundedList Token} {old_stack : BoundedList ℕ} → Cleared old empty → Cleared old_stack empty_stack
      → (t : Tree) × IsScanOf b t old new old_stack new_stack
  scan_of c d = grind (arith, spelled_line, nest_of, json_only, spans_of-flatten, json_shown, count, json_linked, few)

  -- it leaves no marks
  scan_unmarked : AreUnmarked new.elements
  scan_unmarked = grind (arith, json_unmarked, few)

-- a pass over the line, which began with lists that were cleared
pub record Ran (b : List ℕ) (old new : BoundedList Token) (old_stack new_stack : BoundedList ℕ)
    (r : Result (Unit {0}) LineFault) : Type 0 where
  pub empty : BoundedList Token
  pub empty_stack : BoundedList ℕ
  pub cleared : Cleared old empty
  pub cleared_stack : Cleared old_stack empty_stack
  pub answer : RunAnswers b empty_stack r new new_stack
  pub law : KeepsLaw b empty new empty_stack new_stack
  pub short : length b ≤ 1073741824

module _ {b : List ℕ} {old new : BoundedList Token} {old_stack new_stack : BoundedList ℕ} where
  pub ran_tree : (r : Result (Unit {0}) LineFault) → Ran b old new old_stack new_stack r
      → OnOk r ((t : Tree) × IsScanOf b t old new old_stack new_stack)
  ran_tree (Ok v) h = scan_of h.law h.short h.answer h.cleared h.cleared_stack
  ran_tree (Err e) h = search rules

  pub ran_unmarked : (r : Result (Unit {0}) LineFault) → Ran b old new old_stack new_stack r
      → OnOk r (AreUnmarked new.elements)
  ran_unmarked (Ok v) h = scan_unmarked h.law h.short h.answer
  ran_unmarked (Err e) h = search rules

  pub finds_deep : (r : Result (Unit {0}) LineFault) {i : ℕ} → Ran b old new old_stack new_stack r
      → DeepAt b old_stack.limit i → r ≡ Err (TooDeep i)
  finds_deep (Ok v) {i} h d = absurd (accepts_nowhere h.answer i (rw h.cleared_stack.limit d))
  finds_deep (Err (NotUtf8 j)) h d = absurd h.answer
  finds_deep (Err (Syntax j)) {i} h d = absurd (sticks_nowhere b j h.answer.0 i (rw h.cleared_stack.limit d))
  finds_deep (Err (TooDeep j)) h d =
      ap (λ n. Err (TooDeep n)) (one_deep (sinks_deep h.answer.0) (rw h.cleared_stack.limit d))

  pub finds_syntax : (r : Result (Unit {0}) LineFault) {i : ℕ} → Ran b old new old_stack new_stack r
      → NowhereDeep b old_stack.limit → SyntaxAt b i → r ≡ Err (Syntax i)
  finds_syntax (Ok v) h n s =
      let z = spelled_line h.law h.short h.answer in absurd (json_no_syntax z.tree z.json s)
  finds_syntax (Err (NotUtf8 j)) h n s = absurd h.answer
  finds_syntax (Err (Syntax j)) h n s = search (arith, one_syntax, sticks_syntax, h.answer.0.sticks)
  finds_syntax (Err (TooDeep j)) h n s = absurd (n j (rw h.cleared_stack.limit at (sinks_deep h.answer.0)))

  pub finds_tree : (r : Result (Unit {0}) LineFault) (t : Tree) → Ran b old new old_stack new_stack r → Json b t
      → nest t ≤ old_stack.limit → IsOk r
  finds_tree (Ok v) t h j l = search rules
  finds_tree (Err (NotUtf8 i)) t h j l = absurd h.answer
  finds_tree (Err (Syntax i)) t h j l = absurd (json_no_syntax t j (sticks_syntax h.answer.0.sticks))
  finds_tree (Err (TooDeep i)) t h j l =
      absurd (json_nowhere b old_stack.limit t j l i (rw h.cleared_stack.limit at (sinks_deep h.answer.0)))

  module _ {r : Result (Unit {0}) LineFault} (h : Ran b old new old_stack new_stack r) (i : ℕ) where
    pub ran_sinks : r ≡ Err (TooDeep i) → (s : SinksAt b old_stack.limit i)
        × (new_stack.peak ≡ max h.empty_stack.peak s.last.deepest)
    ran_sinks e = rw h.cleared_stack.limit at (rw e at h.answer)

    pub ran_sticks : r ≡ Err (Syntax i) → (s : SticksAt b old_stack.limit i)
        × (new_stack.peak ≡ max h.empty_stack.peak s.sticks.last.deepest)
    ran_sticks e = rw h.cleared_stack.limit at (rw e at h.answer)

    pub ran_syntax : r ≡ Err (Syntax i) → SyntaxAt b i × NowhereDeep b old_stack.limit
    ran_syntax e = let s = (ran_sticks e).0 in (sticks_syntax s.sticks, sticks_nowhere b i s)

    pub ran_utf8 : r ≡ Err (NotUtf8 i) → ⊥
    ran_utf8 e = rw e at h.answer

-- ---- UTF-8

pub utf8_whole : (b : List ℕ) (i : ℕ) → IsValidUpTo b i → IsUtf8 b → ⊥
utf8_whole b i v u = let s = v.short in v.longest (length b) s (subst IsUtf8 (sym (take-length b)) u)

fault_same : (i j : ℕ) → ◌≡◌ {A = Result (Unit {0}) LineFault} (Err (NotUtf8 i)) (Err (NotUtf8 j)) → i ≡ j
fault_same i j h = cc

pub utf8_fault : (b : List ℕ) (n : ℕ) → IsValidUpTo b n → (i : ℕ)
    → (IsErrOf {T = Unit {0}} (Err (NotUtf8 n)) (NotUtf8 i) → IsValidUpTo b i)
    × (IsValidUpTo b i → IsErrOf {T = Unit {0}} (Err (NotUtf8 n)) (NotUtf8 i))
utf8_fault b n v i = (
  λ h. subst (IsValidUpTo b) (fault_same n i h) v,
  λ w. ap (λ k. Err (NotUtf8 k)) (sym (utf8_valid_len-IsValidUpTo b n v) ∙ utf8_valid_len-IsValidUpTo b i w),
)

-- ---- what a scan answers to which room was granted, from what the scan in reserved room answers

err_same : (f g : ScanFault) → ◌≡◌ {A = Result (Unit {0}) ScanFault} (Err f) (Err g) → f ≡ g
err_same f g h = cc

line_err_same : (f g : LineFault) → ◌≡◌ {A = Result (Unit {0}) LineFault} (Err f) (Err g) → f ≡ g
line_err_same f g h = cc

no_ok : (f : LineFault) → IsOk {T = Unit {0}} (Err f) → ⊥
no_ok f h = cc

pub ok_no_fault : (v : Unit {0}) (f : LineFault) → ◌≡◌ {A = Result (Unit {0}) LineFault} (Ok v) (Err f) → ⊥
ok_no_fault v f h = cc

-- a fault of the line is answered as it is
module _ (r : Result (Unit {0}) ScanFault) (f : LineFault) (a : IsErrAnd r (λ g. g ≡ widened_fault f)) where
  fault_is : r ≡ Err (widened_fault f)
  fault_is = grind (arith, err_from_is_err_and)

  pub fault_back : (g : LineFault) → r ≡ Err (widened_fault g) → ◌≡◌ {A = Result (Unit {0}) LineFault} (Err f) (Err g)
  fault_back g h = grind (arith, err_same, fault_is)

  pub fault_on : (g : LineFault) → ◌≡◌ {A = Result (Unit {0}) LineFault} (Err f) (Err g) → r ≡ Err (widened_fault g)
  fault_on g h = cc (fault_is, line_err_same f g h)

  pub fault_judged : {b : List ℕ} {d : ℕ} (j : Judgement b d) → IsReservedAnswerOf j (Err f) → IsAnswerOf j r
  fault_judged (spelled t j n) h = absurd (no_ok f h)
  fault_judged (broken i s n) h = inl (fault_on (Syntax i) h)
  fault_judged (sunk i s) h = inl (fault_on (TooDeep i) h)
