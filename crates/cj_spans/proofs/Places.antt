-- Scalars and names by their places.
use Rattle.cj_spans.proofs.Common.{◌≡◌, ℕ, suc, ◌+◌, ◌-◌, ◌<◌, ◌≤◌, List, [], ◌∷◌, ◌++◌, length, drop, get_or, slice_range, Bool, true, false, cond, nat_eq, Option, Some, None, refl, sym, ap, subst, arith, ◌∙◌, option_and_then, common_steps, take-suc, get_or-drop, length-drop, append-nil, Kind, Text, Token, Lex, AfterN, InString, Mode, Ready, FirstItem, After, FirstName, NextName, AfterName, is_white_space, IsScalar, byte, IsAtom, Begun, token_at, State, state, in_atom, step, lex_start, lex_step, lex_kind, Continues, still, further, Reaches, on, BeginsValue}
use Rattle.std.proofs.lemmas.Bool.{eqb-true}
use Rattle.cj_spans.proofs.Spellings.{none_some, some_same, lex_run, reading, reading_sound, stepped, kind_of_lex, kind_done, run_kind}
use Rattle.cj_spans.proofs.ReadSpellings.{reading_whole, reading-more, reading-append, reading-prefix, can_end}
use Rattle.cj_spans.proofs.Atoms.{continues_reaches}
use Rattle.cj_spans.proofs.Facts.{IsEnd, space, white_end, Arrives, BeginsName, idle}

-- the bytes from i to k begin a scalar, and x is how far it is
pub record InAtom (b : List ℕ) (i k : ℕ) (x : Lex) : Type 0 where
  pub order : i < k
  pub within : k ≤ length b
  pub run : reading (slice_range b i k) ≡ Some x

-- ---- bytes of the line

slice-more : (b : List ℕ) (i k : ℕ) → i ≤ k → k < length b → slice_range b i (suc k) ≡ slice_range b i k
    ++ get_or b k 0 ∷ []
slice-more b i k h l =
    let e : suc k - i ≡ suc (k - i) = omega arith in
    let g : i + (k - i) ≡ k = omega arith in
    let r : k - i < length (drop i b) = omega (arith, length-drop i b) in
    cc (take-suc (drop i b) (k - i) 0 r, get_or-drop i b (k - i) 0)

slice-one : (b : List ℕ) (i : ℕ) → i < length b → slice_range b i (suc i) ≡ get_or b i 0 ∷ []
slice-one b i h = grind (arith, slice-more)

pub slice-length : (b : List ℕ) (i j : ℕ) → i ≤ j → j ≤ length b → i + length (slice_range b i j) ≡ j
slice-length b i j h l = grind (arith, common_steps)

no_zero : (x : Lex) → lex_step x 0 ≡ None
no_zero AfterN = refl
no_zero _ = refl

within_step : (b : List ℕ) (k : ℕ) (x y : Lex) → lex_step x (get_or b k 0) ≡ Some y → k < length b
within_step b k x y h = grind (arith, none_some, no_zero, common_steps)

within_start : (b : List ℕ) (k : ℕ) (y : Lex) → lex_start (get_or b k 0) ≡ Some y → k < length b
within_start b k y h = grind (arith, none_some, common_steps)

start_one : (o : Option Lex) → option_and_then (lex_run []) o ≡ o
start_one None = refl
start_one (Some x) = refl

-- ---- a scalar that has begun

pub atom_first : (b : List ℕ) (i : ℕ) (x : Lex) → lex_start (byte b i) ≡ Some x → InAtom b i (suc i) x
atom_first b i x h = search (arith, within_start, reading, slice-one, start_one)

pub atom_more : {b : List ℕ} {i k : ℕ} {x : Lex} (y : Lex) → InAtom b i k x → lex_step x (byte b k) ≡ Some y
    → InAtom b i (suc k) y
atom_more {b} {i} {k} {x} y r h =
    let l = within_step b k x y h in
    let o : i ≤ k = omega (arith, r.order) in
    record {
      order = omega (arith, r.order);
      within = omega arith;
      run = ap reading (slice-more b i k o l)
          ∙ reading-more (slice_range b i k) _ x r.run ∙ h;
    }

pub atom_sound : {b : List ℕ} {i k : ℕ} {x : Lex} → InAtom b i k x → (kd : Kind) → lex_kind x ≡ Some kd
    → IsAtom b kd i k
atom_sound {b} {i} {k} {x} r kd h = grind (arith, reading_sound, r.order, r.within, r.run)

-- a scalar of the reading's kind begins so
pub atom_begun : {b : List ℕ} {i k : ℕ} {x : Lex} → InAtom b i k x → Begun b (kind_of_lex x) i k
atom_begun {b} {i} {k} {x} r =
    let c = can_end x in
    record {
      order = r.order;
      within = r.within;
      rest = c.rest;
      spelled = reading_sound (slice_range b i k ++ c.rest) c.last (kind_of_lex x)
          (reading-append (slice_range b i k) c.rest x r.run ∙ c.run) c.done;
    }

-- ---- names

pub slice_has : (b : List ℕ) (i j n : ℕ) → n < length (slice_range b i j)
    → byte b (i + n) ≡ get_or (slice_range b i j) n 0
slice_has b i j n l = grind (arith, common_steps)

plus_zero : (k : ℕ) → k ≡ k + 0
plus_zero k = omega arith

pub first_byte : (b : List ℕ) (i k : ℕ) → i < k → k ≤ length b → byte b i ≡ get_or (slice_range b i k) 0 0
first_byte b i k o l = grind (arith, slice-length, plus_zero, slice_has)

-- a reading that began with a quote is one of a string
pub in_text : {b : List ℕ} {i k : ℕ} {x : Lex} → InAtom b i k x → byte b i ≡ 34 → kind_of_lex x ≡ Text
in_text {b} {i} {k} {x} r q = by_first (slice_range b i k) (sym (first_byte b i k r.order r.within) ∙ q) r.run
  where
    by_first : (s : List ℕ) → get_or s 0 0 ≡ 34 → reading s ≡ Some x → kind_of_lex x ≡ Text
    by_first [] e h = none_some x h
    by_first (c ∷ s) e h = let w = stepped _ _ x h in
        run_kind s w.0 x w.2 ∙ ap kind_of_lex (sym (some_same InString w.0 (sym (ap lex_start e) ∙ w.1)))

pub name_kind : {b : List ℕ} {i k : ℕ} {x : Lex} → InAtom b i k x → byte b i ≡ 34 → (kd : Kind) → lex_kind x ≡ Some kd
    → kd ≡ Text
name_kind {x = x} r q kd h = sym (kind_done x kd h) ∙ in_text r q

pub name_begun : {b : List ℕ} {i k : ℕ} {x : Lex} → InAtom b i k x → byte b i ≡ 34 → Begun b Text i k
name_begun r q = rw (in_text r q) at (atom_begun r)

-- ---- the machine over a scalar

cond_not : {A : Type 0} (v : Bool) (x y : A) → (v ≡ true → ⊥) → cond v x y ≡ y
cond_not true x y h = absurd (h refl)
cond_not false x y h = refl

start_end : {c : ℕ} → IsEnd c → lex_start c ≡ None
start_end space = refl
start_end _ = refl

starts_not : (c d : ℕ) (x : Lex) → lex_start c ≡ Some x → lex_start d ≡ None → nat_eq c d ≡ true → ⊥
starts_not c d x h n e = grind (arith, none_some, eqb-true)

starts_not_white : (c : ℕ) (x : Lex) → lex_start c ≡ Some x → is_white_space c ≡ true → ⊥
starts_not_white c x h e = none_some x (sym (start_end (white_end c e)) ∙ h)

pub step_atom : (c : ℕ) (x : Lex) (m : Mode) (ks : List ℕ) (ts : List Token) (i p : ℕ) → BeginsValue m
    → lex_start c ≡ Some x → step c (idle m ks ts i p) ≡ Some (state (in_atom After i x) ks ts (suc i) p)
step_atom c x Ready ks ts i p b h = grind (arith, common_steps, cond_not, starts_not_white, starts_not)
step_atom c x FirstItem ks ts i p b h = grind (arith, common_steps, cond_not, starts_not_white, starts_not)
step_atom c x _ ks ts i p b h = absurd b

pub step_name : {c : ℕ} (m : Mode) (ks : List ℕ) (ts : List Token) (i p : ℕ) → BeginsName m → c ≡ 34
    → step c (idle m ks ts i p) ≡ Some (state (in_atom AfterName i InString) ks ts (suc i) p)
step_name FirstName ks ts i p g q = cc
step_name NextName ks ts i p g q = cc
step_name _ ks ts i p g q = absurd g

shift : (k n : ℕ) → suc k + n ≡ k + suc n
shift k n = omega arith

-- bytes that a reading passes over, by their places
pub continues_run : (r : List ℕ) {b : List ℕ} {i k : ℕ} {x y : Lex} (z : Lex) → Continues b i x k y
    → lex_run r y ≡ Some z
    → ((n : ℕ) → n < length r → byte b (k + n) ≡ get_or r n 0) → Continues b i x (k + length r) z
continues_run [] {k} {y} z c h e = grind (arith, some_same)
continues_run (d ∷ r) {b} {k} {y} z c h e =
    let w = stepped _ (lex_step y d) z h in
    let f : byte b k ≡ d = cc (plus_zero k, e 0 (omega arith)) in
    let a : suc k + length r ≡ k + suc (length r) = omega arith in
    rw a at (continues_run r z (further k y w.0 c (ap (lex_step y) f ∙ w.1)) w.2
    (λ n l. ap (byte b) (shift k n) ∙ e (suc n) (omega arith)))

-- the first reading of a scalar, and how it goes on
record Started (b : List ℕ) (i k : ℕ) (y : Lex) : Type 0 where
  first : Lex
  starts : lex_start (byte b i) ≡ Some first
  goes : Continues b (suc i) first k y

started : {b : List ℕ} {i k : ℕ} {y : Lex} → InAtom b i k y → Started b i k y
started {b} {i} {k} {y} r =
    by_list (slice_range b i k) (slice-length b i k (omega (arith, r.order)) r.within) (slice_has b i k) r.run
  where
    by_list : (s : List ℕ) → i + length s ≡ k → ((n : ℕ) → n < length s → byte b (i + n) ≡ get_or s n 0)
        → reading s ≡ Some y → Started b i k y
    by_list [] l e h = none_some y h
    by_list (c ∷ s) l e h =
        let z = stepped _ _ y h in
        let f : byte b i ≡ c = cc (plus_zero i, e 0 (omega arith)) in
        let a : suc i + length s ≡ k = omega arith in
        record {
          first = z.0;
          starts = ap lex_start f ∙ z.1;
          goes = rw a at (continues_run s y still z.2
              (λ n q. ap (byte b) (shift i n) ∙ e (suc n) (omega arith)));
        }

pub run_begun : {b : List ℕ} {i k : ℕ} {y : Lex} → InAtom b i k y
    → {s : State} (m : Mode) (ks : List ℕ) (ts : List Token) (p : ℕ) → BeginsValue m → Reaches b s (idle m ks ts i p)
    → Reaches b s (state (in_atom After i y) ks ts k p)
run_begun {b} {i} r m ks ts p g h =
    let z = started r in
    continues_reaches z.goes After i ks ts p (on (idle m ks ts i p) (state (in_atom After i z.first) ks ts (suc i) p) h
    (step_atom (byte b i) z.first m ks ts i p g z.starts))

pub run_begun_name : {b : List ℕ} {i k : ℕ} {y : Lex} → InAtom b i k y → byte b i ≡ 34
    → {s : State} (m : Mode) (ks : List ℕ) (ts : List Token) (p : ℕ) → BeginsName m → Reaches b s (idle m ks ts i p)
    → Reaches b s (state (in_atom AfterName i y) ks ts k p)
run_begun_name {i} r q m ks ts p g h =
    let z = started r in
    let e : InString ≡ z.first = some_same InString z.first (sym (ap lex_start q) ∙ z.starts) in
    let c = rw (← e) at z.goes in
    continues_reaches c AfterName i ks ts p
    (on _ _ h (step_name m ks ts i p g q))

-- ---- scalars of the grammar

-- the reading of a prefix of a scalar
pub record AtomReading (b : List ℕ) (i k : ℕ) : Type 0 where
  pub last : Lex
  pub inside : InAtom b i k last

pub begun_reading : {b : List ℕ} {kd : Kind} {i j : ℕ} → Begun b kd i j → AtomReading b i j
begun_reading {b} {kd} {i} {j} w =
    grind (arith, reading_whole, slice-length, reading-prefix, w.rest, w.spelled, w.within, w.order)

-- the reading of a whole scalar
pub record WholeReading (b : List ℕ) (kd : Kind) (i k : ℕ) : Type 0 where
  pub last : Lex
  pub inside : InAtom b i k last
  pub kind : lex_kind last ≡ Some kd

pub atom_reading : {b : List ℕ} {kd : Kind} {i j : ℕ} → IsAtom b kd i j → WholeReading b kd i j
atom_reading {b} {kd} {i} {j} w = grind (arith, reading_whole, w.spelled, w.order, w.within)

-- a string begins with its quote
pub quote_first : (b : List ℕ) (i j : ℕ) (r : List ℕ) → i < j → j ≤ length b → IsScalar Text (slice_range b i j ++ r)
    → byte b i ≡ 34
quote_first b i j r h l w =
    let e = slice-length b i j (omega arith) l in
    first_byte b i j h l ∙ head_of (slice_range b i j) r (w.body ++ 34 ∷ []) (omega arith) w.joined
  where
    head_of : (s r body : List ℕ) → 0 < length s → s ++ r ≡ 34 ∷ body → get_or s 0 0 ≡ 34
    head_of [] r body l h = absurd (omega arith)
    head_of (c ∷ s) r body l h = cc

pub name_quote : {b : List ℕ} {i j : ℕ} → IsAtom b Text i j → byte b i ≡ 34
name_quote {b} {i} {j} w = quote_first b i j [] w.order w.within (subst (IsScalar Text) (sym (append-nil _)) w.spelled)

-- a scalar or a name that may end here has ended
atom_arrives : {b : List ℕ} {s : State} (n : Mode) {kd : Kind} {x : Lex} {i j p : ℕ} {ks : List ℕ} {ts : List Token}
    → Reaches b s (state (in_atom n i x) ks ts j p) → lex_kind x ≡ Some kd
    → Arrives b s (idle n ks (ts ++ token_at i j (suc (length ts)) ∷ []) j p)
atom_arrives n {x} {i} {j} {p} {ks} {ts} r e = grind (arith, in_atom)

pub run_atom : {b : List ℕ} {kd : Kind} {i j : ℕ} → IsAtom b kd i j
    → {s : State} (m : Mode) (ks : List ℕ) (ts : List Token) (p : ℕ) → BeginsValue m → Reaches b s (idle m ks ts i p)
    → Arrives b s (idle After ks (ts ++ token_at i j (suc (length ts)) ∷ []) j p)
run_atom w m ks ts p g r = let a = atom_reading w in atom_arrives After (run_begun a.inside m ks ts p g r) a.kind

pub run_name : {b : List ℕ} {i j : ℕ} → IsAtom b Text i j
    → {s : State} (m : Mode) (ks : List ℕ) (ts : List Token) (p : ℕ) → BeginsName m → Reaches b s (idle m ks ts i p)
    → Arrives b s (idle AfterName ks (ts ++ token_at i j (suc (length ts)) ∷ []) j p)
run_name w m ks ts p g r =
    let a = atom_reading w in
    atom_arrives AfterName (run_begun_name a.inside (name_quote w) m ks ts p g r) a.kind
