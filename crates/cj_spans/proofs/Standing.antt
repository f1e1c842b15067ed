-- Where the pass over a line stands in the machine.
use Rattle.cj_spans.proofs.Common.{◌≡◌, ℕ, suc, ◌+◌, ◌*◌, ◌/◌, ◌^◌, ◌<◌, ◌≤◌, List, [], ◌∷◌, ◌++◌, length, max, Bool, false, IsTrue, Option, Some, None, Err, refl, sym, ap, subst, arith, ◌∙◌, inl, inr, IsSomeAnd, BoundedList, IsWithin, Becomes, LineFault, NotUtf8, Syntax, TooDeep, Token, Mode, Ready, FirstItem, After, FirstName, NextName, AfterName, Move, Next, byte, KeepsLaw, State, state, step, read, Reaches, here, on, start, ComesTo, Sticks, phase_after, deepest_after, Answers, EndAnswers, Kept, Grown, BeginsValue, BeginsName, BeginsAtom, SticksAt, RunAnswers, Standing, common_steps}
use Rattle.cj_spans.specs.declared.step.Move.TheVariants.{Stay, To, Open, Atom}
use Rattle.cj_spans.proofs.Spellings.{some_same}
use Rattle.cj_spans.proofs.Facts.{idle, Settled, settled, same_mode, IsLawful, goes, lawful_reaches, lawful_settles, reaches_both}

-- ---- the beginning

empty_settles : (b : List ℕ) {ks : List ℕ} {ts : List Token} → ts ≡ [] → ks ≡ []
    → ComesTo b start (idle Ready ks ts 0 0)
empty_settles b e f =
    let base : ComesTo b start start = record { last = start; reached = here; settles = refl; same = λ l. refl } in
    rw f (rw e base)

pub standing_first : (b : List ℕ) (tokens : BoundedList Token) (stack : BoundedList ℕ) → IsWithin tokens
    → IsWithin stack → tokens.elements ≡ [] → stack.elements ≡ [] → Standing b tokens stack tokens stack Ready 0
standing_first b tokens stack w v e f = grind (arith, empty_settles)

-- ---- what the calls need

count_of : (m : Mode) (ks : List ℕ) (ts : List Token) (i p : ℕ) → IsLawful (idle m ks ts i p)
    → 2 * length ts ≤ suc i + length ks
count_of After ks ts i p l = l.token_count
count_of AfterName ks ts i p l = l.token_count
count_of _ ks ts i p l = omega arith

pub count_before : (m : Mode) (ks : List ℕ) (ts : List Token) (i p : ℕ) → IsLawful (idle m ks ts i p) → BeginsValue m
    → 2 * length ts ≤ i + length ks
count_before Ready ks ts i p l h = l.token_count
count_before FirstItem ks ts i p l h = l.token_count
count_before _ ks ts i p l h = absurd h

count_name : (m : Mode) (ks : List ℕ) (ts : List Token) (i p : ℕ) → IsLawful (idle m ks ts i p) → BeginsName m
    → 2 * length ts ≤ i + length ks
count_name FirstName ks ts i p l h = l.token_count
count_name NextName ks ts i p l h = l.token_count
count_name _ ks ts i p l h = absurd h

half_room : (t i n o d limit : ℕ) → 2 * t ≤ i + o → i < n → o ≤ d → (n + d + 1) / 2 ≤ limit → t < limit
half_room t i n o d limit h l g r = omega arith

pub kept_both : {x y z : BoundedList Token} → Kept x y → Grown y z → Kept x z
kept_both k g = grind (arith, g.kept.limit, k.limit, g.kept.room, k.room, g.kept.within)

-- the machine after a byte, with the lists that the code then has
pub record Stepped (b : List ℕ) (tokens0 : BoundedList Token) (stack0 : BoundedList ℕ) (tokens : BoundedList Token)
    (stack : BoundedList ℕ) (m : Mode) (i : ℕ) (v : Move) : Type 0 where
  pub deepest : ℕ
  pub reached : Reaches b start (state (phase_after m i v) stack.elements tokens.elements (suc i) deepest)
  pub kept : Kept tokens0 tokens
  pub stack_limit : stack.limit ≡ stack0.limit
  pub stack_peak : stack.peak ≡ max stack0.peak deepest
  pub stack_room : IsTrue stack0.reserved → IsTrue stack.reserved
  pub stack_within : IsWithin stack

atom_count : (m : Mode) (i p : ℕ) (v : Move) (ks : List ℕ) (ts : List Token)
    → IsLawful (state (phase_after m i v) ks ts (suc i) p) → BeginsAtom v → 2 * length ts ≤ i + length ks
atom_count m i p (Atom k x) ks ts l h = l.token_count
atom_count m i p _ ks ts l h = absurd h

count_after : (m : Mode) (i p : ℕ) (v : Move) (ks : List ℕ) (ts : List Token)
    → IsLawful (state (phase_after m i v) ks ts (suc i) p) → 2 * length ts ≤ suc (suc i) + length ks
count_after m i p Stay ks ts l = count_of m ks ts (suc i) p l
count_after m i p (To n) ks ts l = count_of n ks ts (suc i) p l
count_after m i p (Open n) ks ts l = count_of n ks ts (suc i) p l
count_after m i p (Atom n x) ks ts l = omega arith

-- a run goes on
pub settles_both : {b : List ℕ} {s t u : State} → Reaches b s t → ComesTo b t u → ComesTo b s u
settles_both r h = grind (arith, reaches_both, h.reached, h.settles, h.same)

abbrev sticks_both : {b : List ℕ} {s t : State} {i : ℕ} → Reaches b s t → Sticks b t i → Sticks b s i
sticks_both r h =
    record { last = h.last; reached = reaches_both r h.reached; at = h.at; within = h.within; stuck = h.stuck }

pub kept_same : (x : BoundedList ℕ) → IsWithin x → Kept x x
kept_same x w = grind arith

pub grown_same : (x : BoundedList Token) → IsWithin x → Grown x x
grown_same x w = grind arith

-- one token more
pub grown_more : (x z : BoundedList Token) (t : Token) → IsWithin x → Becomes x (x.elements ++ t ∷ []) z → Grown x z
grown_more x z t w e = grind (arith, common_steps, e.limit, e.room, e.within)

shallow_at : (deepest : ℕ) {peak limit : ℕ} (peak0 : ℕ) {limit0 : ℕ} → peak ≡ max peak0 deepest → peak ≤ limit
    → limit ≡ limit0
    → deepest ≤ limit0
shallow_at deepest peak0 e h q = omega arith

-- ---- from where a pass stands

module _ {b : List ℕ} {tokens0 : BoundedList Token} {stack0 : BoundedList ℕ} {tokens : BoundedList Token}
    {stack : BoundedList ℕ} {m : Mode} {i : ℕ} (s : Standing b tokens0 stack0 tokens stack m i) where
  standing_lawful : IsLawful (idle m stack.elements tokens.elements i s.deepest)
  standing_lawful = search (arith, lawful_settles, lawful_reaches)

  standing_last : Settled s.settles.last (idle m stack.elements tokens.elements i s.deepest)
  standing_last = settled s.settles.last _ s.settles.settles

  standing_shallow : s.deepest ≤ stack0.limit
  standing_shallow = grind (arith, shallow_at)

  pub standing_small : length b ≤ 1073741824 → i < length b → (i < 2 ^ 31) × (length tokens.elements < 2 ^ 31)
  standing_small h l = grind (arith, standing_lawful, count_of)

  pub standing_room : (length b + stack0.limit + 1) / 2 ≤ tokens0.limit → i < length b → BeginsValue m
      → length tokens.elements < tokens.limit
  standing_room r l h = grind (arith, half_room, count_before, standing_lawful)

  pub standing_name_room : (length b + stack0.limit + 1) / 2 ≤ tokens0.limit → i < length b → BeginsName m
      → length tokens.elements < tokens.limit
  standing_name_room r l h = grind (arith, half_room, count_name, standing_lawful)

  -- what goes on over the tokens alone
  pub standing_with : {tokens1 : BoundedList Token} (n : Mode) (j : ℕ) → Grown tokens tokens1 → j ≤ length b
      → ((p : ℕ) → ComesTo b start (idle m stack.elements tokens.elements i p)
      → ComesTo b start (idle n stack.elements tokens1.elements j p)) → Standing b tokens0 stack0 tokens1 stack n j
  standing_with n j g l h = grind (arith, kept_both)

  -- over one byte
  pub standing_step : {tokens1 : BoundedList Token} {stack1 : BoundedList ℕ} (v : Move) → i < length b
      → Grown tokens tokens1 → Kept stack stack1
      → ((p : ℕ) → read m (byte b i) (idle m stack.elements tokens.elements i p)
      ≡ Some (state (phase_after m i v) stack1.elements tokens1.elements (suc i)
      (deepest_after v p (length stack1.elements)))) → Stepped b tokens0 stack0 tokens1 stack1 m i v
  standing_step {tokens1} {stack1} v l g k h =
      let u = state (phase_after m i v) stack1.elements tokens1.elements (suc i)
      (deepest_after v s.deepest (length stack1.elements)) in
      let q : step (byte b s.settles.last.place) s.settles.last ≡ Some u = cc
      (standing_last.place, s.settles.same l, h s.deepest) in
      let d = (goes u (byte b i) standing_lawful (h s.deepest)).deepest in
      record {
        deepest = deepest_after v s.deepest (length stack1.elements);
        reached = on s.settles.last u s.settles.reached q;
        kept = kept_both s.kept g;
        stack_limit = k.limit ∙ s.stack_limit;
        stack_peak = omega arith;
        stack_room = λ r. k.room (s.stack_room r);
        stack_within = k.within;
      }

  -- the law at an exit
  pub standing_law : {tokens1 : BoundedList Token} {stack1 : BoundedList ℕ} → Grown tokens tokens1 → Kept stack stack1
      → tokens1 ≡ tokens → stack1 ≡ stack → KeepsLaw b tokens0 tokens1 stack0 stack1
  standing_law {tokens1} {stack1} g k e x =
      grind (arith, count_of, standing_lawful, kept_both, k.limit, k.room, k.within)

  pub ended_law : KeepsLaw b tokens0 tokens stack0 stack
  ended_law = grind (arith, standing_law, grown_same, kept_same)

  pub standing_fault : (X : Type 0) (tokens1 : BoundedList Token) {stack1 : BoundedList ℕ} (f : LineFault)
      → i < length b
      → ((p : ℕ) → Answers (read m (byte b i) (idle m stack.elements tokens.elements i p)) m i p stack.limit
      (Err f) stack1.elements tokens1.elements)
      → stack1 ≡ stack → RunAnswers {X = X} b stack0 (Err f) tokens1 stack1
  standing_fault X tokens1 (NotUtf8 j) l h x = h 0
  standing_fault X tokens1 {stack1} (Syntax j) l h x =
      let a = h s.deepest in
      let q : step (byte b j) s.settles.last ≡ None = cc (a.0, s.settles.same l, a.1) in
      let e = standing_last in let r = standing_shallow in
      let same : stack1.peak ≡ stack.peak = cc x in (
        record {
          sticks = record {
            last = s.settles.last;
            reached = s.settles.reached;
            at = standing_last.place ∙ sym a.0;
            within = omega arith;
            stuck = inl (omega arith, q);
          };
          shallow = omega arith;
        },
        omega arith,
      )
  standing_fault X tokens1 {stack1} (TooDeep j) l h x =
      let t = idle m stack.elements tokens.elements i s.deepest in
      let a = h s.deepest in
      let q : step (byte b j) s.settles.last ≡ read m (byte b i) t = cc (a.0, s.settles.same l) in
      let e = standing_last in let r = standing_shallow in
      let same : stack1.peak ≡ stack.peak = cc x in let P : ℕ
      → Type 0 = λ n. IsSomeAnd (read m (byte b i) t) (λ u. length u.stack ≡ suc n) in
      let Q : Option State → Type 0 = λ o. IsSomeAnd o (λ u. length u.stack ≡ suc stack0.limit) in (
        record {
          last = s.settles.last;
          reached = s.settles.reached;
          at = standing_last.place ∙ sym a.0;
          within = omega arith;
          shallow = omega arith;
          deep = subst Q (sym q) (subst P s.stack_limit a.1);
        },
        omega arith,
      )

  -- the end of the line
  pub ended_fault : length b ≤ i → ((m ≡ After) × (stack.elements ≡ []) → ⊥)
      → (k : SticksAt b stack0.limit i) × (stack.peak ≡ max stack0.peak k.sticks.last.deepest)
  ended_fault l n =
      let t = idle m stack.elements tokens.elements i s.deepest in
      let e = standing_last in let r = standing_shallow in
      let w = s.place in (
        record {
          sticks = record {
            last = s.settles.last;
            reached = s.settles.reached;
            at = e.place;
            within = w;
            stuck = inr (
              omega arith,
              λ ts p h.
                  let q = some_same t (idle After [] ts (length b) p) (sym s.settles.settles ∙ h) in
                  n (same_mode m After (ap (λ u. u.phase) q), ap (λ u. u.stack) q),
            );
          };
          shallow = omega arith;
        },
        omega arith,
      )

-- ---- from where it stands after a byte

module _ {b : List ℕ} {tokens0 : BoundedList Token} {stack0 : BoundedList ℕ} {tokens : BoundedList Token}
    {stack : BoundedList ℕ} {m : Mode} {i : ℕ} {v : Move} (s : Stepped b tokens0 stack0 tokens stack m i v) where
  pub stepped_room : (length b + stack0.limit + 1) / 2 ≤ tokens0.limit → i < length b → BeginsAtom v
      → length tokens.elements < tokens.limit
  stepped_room r l h = grind (arith, half_room, atom_count, lawful_reaches)

  pub stepped_small : length b ≤ 1073741824 → i < length b
      → (length stack.elements < 2 ^ 31) × (length tokens.elements < 2 ^ 31)
  stepped_small h l = grind (arith, lawful_reaches, count_after)

  pub stepped_on : {tokens1 : BoundedList Token} (n : Next) → Grown tokens tokens1
      → ((p : ℕ) → ComesTo b (state (phase_after m i v) stack.elements tokens.elements (suc i) p)
      (idle n.mode stack.elements tokens1.elements n.place p) × (suc i ≤ n.place) × (n.place ≤ length b))
      → Standing b tokens0 stack0 tokens1 stack n.mode n.place
  stepped_on n g h = record {
    deepest = s.deepest;
    settles = settles_both s.reached (h s.deepest).0;
    place = (h s.deepest).2;
    kept = kept_both s.kept g;
    stack_limit = s.stack_limit;
    stack_peak = s.stack_peak;
    stack_room = s.stack_room;
    stack_within = s.stack_within;
  }

  pub stepped_law : {tokens1 : BoundedList Token} → i < length b → Grown tokens tokens1 → tokens1 ≡ tokens
      → KeepsLaw b tokens0 tokens1 stack0 stack
  stepped_law {tokens1} l g e = grind (arith, count_after, lawful_reaches, kept_both)

  pub stepped_fault : (X : Type 0) (tokens1 : BoundedList Token) (f : LineFault)
      → ((p : ℕ) → EndAnswers b (state (phase_after m i v) stack.elements tokens.elements (suc i) p)
      (Err f) tokens1.elements) → RunAnswers {X = X} b stack0 (Err f) tokens1 stack
  stepped_fault X tokens1 (NotUtf8 j) h = h 0
  stepped_fault X tokens1 (TooDeep j) h = absurd (h 0)
  stepped_fault X tokens1 (Syntax j) h =
      let a = h s.deepest in
      let r = shallow_at s.deepest stack0.peak s.stack_peak s.stack_within.below_limit s.stack_limit in (
        record { sticks = sticks_both s.reached a.sticks; shallow = rw a.flat r },
        rw a.flat s.stack_peak,
      )

-- a test that failed
pub not_so : {r : Bool} (P : Type 0) → (IsTrue r → P) × (P → IsTrue r) → r ≡ false → P → ⊥
not_so {r} P h e x = grind (arith, h.1)
