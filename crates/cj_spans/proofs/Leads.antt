-- Calls that leave the stack: where the pass stands behind them, in whatever container is innermost.
use Rattle.cj_spans.proofs.Common.{◌≡◌, ℕ, ◌+◌, ◌<◌, List, [], ◌∷◌, ◌++◌, length, max, suc, ◌≤◌, refl, subst, sym, ap, ◌∙◌, inl, inr, true, false, arith, Some, Ok, Err, slice_get, slice_set, BoundedList, Becomes, IsWithin, TooDeep, Kind, Array, Token, Mode, Ready, FirstItem, After, Open, Next, byte, token_at, between, start, with_opened, read, ReadsByte, Grown, BeginsValue, InArray, IsInnermost, IsNumberUpTo, EndsItem, FitsToken, Standing, Stands, StandsIn, LeadsIn, GoesOn, KeepsTokens, ReadsNumbers, slice_get_within}
use Rattle.cj_spans.proofs.Lists.{slice_get-append, get_before}
use Rattle.cj_spans.specs.declared.arrays.Numbers.{Numbers}
use Rattle.cj_spans.proofs.WholeNumbers.{stands_on, stands_small, stands_room, stands_within, standing_number, standing_comma, standing_opened, standing_closed, standing_refused, opened_in, opens_array}
use Rattle.cj_spans.proofs.Spellings.{some_same}
use Rattle.cj_spans.proofs.Standing.{grown_more, grown_same, kept_same}
use Rattle.cj_spans.proofs.Signs.{innermost_more}

module _ {d : Kind} {b : List ℕ} {ts : BoundedList Token} where
  pub leads_on : {us vs : BoundedList Token} {m n o : Mode} {i j k : ℕ} → LeadsIn d b ts m i us n j
      → LeadsIn d b us n j vs o k → LeadsIn d b ts m i vs o k
  leads_on f g = λ t0 s0 ks a s. let h = f t0 s0 ks a s in g t0 s0 ks h.0 h.1

  pub stands_leads : {us : BoundedList Token} {m n : Mode} {i j : ℕ} → StandsIn d b ts m i → LeadsIn d b ts m i us n j
      → StandsIn d b us n j
  stands_leads s f =
      let h = f s.stands.tokens0 s.stands.stack0 s.stack s.innermost s.stands.standing in
      record {
        stack = s.stack;
        stands = record {
          tokens0 = s.stands.tokens0;
          stack0 = s.stands.stack0;
          standing = h.1;
          room = s.stands.room;
        };
        innermost = h.0;
      }

  -- the same where the stack is known
  pub stands_inside : {ks : BoundedList ℕ} {m : Mode} {i : ℕ} → Stands b ts ks m i
      → IsInnermost d ks.elements ts.elements → StandsIn d b ts m i
  stands_inside s a = grind arith

  pub leads_from : {us : BoundedList Token} (ks : BoundedList ℕ) {m n o : Mode} {i j : ℕ}
      → IsInnermost d ks.elements ts.elements → LeadsIn d b ts m i us n j → n ≡ o → (t0 : BoundedList Token)
      → (s0 : BoundedList ℕ) → Standing b t0 s0 ts ks m i → Standing b t0 s0 us ks o j
  leads_from ks a f e t0 s0 s = rw e at (f t0 s0 ks a s).1

  pub stands_from : {us : BoundedList Token} {ks : BoundedList ℕ} {m n o : Mode} {i j : ℕ} → Stands b ts ks m i
      → IsInnermost d ks.elements ts.elements → LeadsIn d b ts m i us n j → n ≡ o → Stands b us ks o j
  stands_from {ks} s a f e = stands_on s (leads_from ks a f e)

  pub innermost_from : {us : BoundedList Token} {ks : BoundedList ℕ} {m n : Mode} {i j : ℕ} → Stands b ts ks m i
      → IsInnermost d ks.elements ts.elements → LeadsIn d b ts m i us n j → IsInnermost d ks.elements us.elements
  innermost_from {ks} s a f = (f s.tokens0 s.stack0 ks a s.standing).0

-- ---- numbers of an array

pub kept_more : (ts : List Token) {us : List Token} (vs : List Token) → us ≡ ts ++ vs → KeepsTokens ts us
kept_more ts vs e = grind (arith, slice_get-append)

module _ {b : List ℕ} (ts us : BoundedList Token) (m : Mode) {i k : ℕ} (v : BeginsValue m) (n : IsNumberUpTo b i k)
    (e : Becomes ts (ts.elements ++ token_at i k (length ts.elements + 1) ∷ []) us) where
  pub leads_number : EndsItem (byte b k) → LeadsIn Array b ts m i us After k
  leads_number w = grind (arith, innermost_more, standing_number)

  -- and its comma
  pub leads_item : byte b k ≡ 44 → LeadsIn Array b ts m i us Ready (k + 1)
  leads_item c = λ t0 s0 ks a s.
      let h = leads_number (inl c) t0 s0 ks a s in
      (h.0, standing_comma k h.1 n.within c h.0)

pub kept_all : (ts us vs : List Token) → KeepsTokens ts us → KeepsTokens us vs → KeepsTokens ts vs
kept_all ts us vs f g = λ k t h. g k t (f k t h)

-- ---- calls that read numbers

-- more numbers may come
abbrev before_more : Next → Numbers
before_more n = record { next = n; ended = false }

-- one call after another
pub reads_on : {b : List ℕ} {ts us vs : BoundedList Token} {f n : Next} {r : Numbers}
    → ReadsNumbers b ts f us (before_more n) → ReadsNumbers b us n vs r → ReadsNumbers b ts f vs r
reads_on {ts} {us} {vs} x y = grind (arith, leads_on, kept_all, x.leads, y.leads, x.kept, y.kept, y.ended, y.begins)

-- a number and its comma
pub reads_item : {b : List ℕ} (ts us : BoundedList Token) (f : Next) {k : ℕ} → BeginsValue f.mode
    → IsNumberUpTo b f.place k → Becomes ts (ts.elements ++ token_at f.place k (length ts.elements + 1) ∷ []) us
    → byte b k ≡ 44 → ReadsNumbers b ts f us (before_more (record { mode = Ready; place = k + 1 }))
reads_item ts us f v n e c =
    record {
      leads = leads_item ts us f.mode v n e c;
      kept = kept_more ts.elements _ e.elements;
      ended = λ t. cc;
      begins = λ q. tt;
      order = omega arith;
    }

-- the last number of an array
pub reads_last : {b : List ℕ} (ts us : BoundedList Token) (f : Next) {k : ℕ} → BeginsValue f.mode
    → IsNumberUpTo b f.place k → Becomes ts (ts.elements ++ token_at f.place k (length ts.elements + 1) ∷ []) us
    → byte b k ≡ 93 → ReadsNumbers b ts f us (record { next = record { mode = After; place = k }; ended = true })
reads_last ts us f v n e c =
    record {
      leads = leads_number ts us f.mode v n e (inr c);
      kept = kept_more ts.elements _ e.elements;
      ended = λ t. record { after = refl; within = n.within; bracket = c };
      begins = λ q. cc;
      order = omega arith;
    }

-- what the calls need
pub in_small : {d : Kind} {b : List ℕ} {ts : BoundedList Token} {m : Mode} {i : ℕ} → StandsIn d b ts m i → i < length b
    → FitsToken i ts
in_small s l = stands_small s.stands l

pub in_room : {d : Kind} {b : List ℕ} {ts : BoundedList Token} {m : Mode} {i : ℕ} → StandsIn d b ts m i → i < length b
    → BeginsValue m → length ts.elements < ts.limit
in_room s l v = stands_room s.stands l v

-- ---- an array that is not put on the stack

-- the stack with an item more, as if it were put there
abbrev pub with_top : BoundedList ℕ → ℕ → BoundedList ℕ
with_top ks k = record ks { elements = k ∷ ks.elements; peak = max ks.peak (suc (length ks.elements)) }

module _ {ts us : BoundedList Token} {ks : BoundedList ℕ} (i : ℕ)
    (e : Becomes ts (ts.elements ++ token_at i 0 0 ∷ []) us) (w : IsWithin ts) (x : IsWithin ks)
    (f : length ks.elements < ks.limit) where
  -- the bracket opens it
  array_opens : ReadsByte (λ s. Some (with_opened Array FirstItem s)) i (Ok (Open FirstItem)) ts us ks
      (with_top ks (length ts.elements))
  array_opens = grind (arith, between, grown_more)

  pub flat_opened : (b : List ℕ) (m : Mode) → BeginsValue m → i < length b → byte b i ≡ 91
      → (t0 : BoundedList Token) (s0 : BoundedList ℕ) → Standing b t0 s0 ts ks m i
      → Standing b t0 s0 us (with_top ks (length ts.elements)) FirstItem (i + 1)
  flat_opened b m v l h = standing_opened opens_array b m array_opens v l h

  pub flat_in : InArray (length ts.elements ∷ ks.elements) us.elements
  flat_in = opened_in opens_array array_opens

pub top_there : (ks : List ℕ) (k : ℕ) (ts : List Token) (a : InArray (k ∷ ks) ts) → slice_get ts k ≡ Some a.token
top_there ks k ts a = rw (some_same k a.top a.innermost) a.there

-- behind the bracket of an array that was never put on the stack, which notes an item more
pub flat_closed : (b : List ℕ) {ts us : BoundedList Token} (ks : BoundedList ℕ) {ks1 : BoundedList ℕ} (k i : ℕ)
    → i < length b
    → byte b i ≡ 93 → InArray (k ∷ ks.elements) ts.elements → IsWithin ks → IsWithin ks1
    → ks1 ≡ record ks { peak = max ks.peak (length ks.elements + 1) }
    → ((t : Token) → slice_get ts.elements k ≡ Some t
    → us.elements ≡ slice_set ts.elements k (token_at t.start (suc i) (length ts.elements))) → Grown ts us
    → (t0 : BoundedList Token) (s0 : BoundedList ℕ) → Standing b t0 s0 ts (with_top ks k) After i
    → Standing b t0 s0 us ks1 After (i + 1)
flat_closed b {ts} ks {ks1} k i l e a x y f h g t0 s0 s = grind (arith, standing_closed, top_there)

-- the same stack, however it came to be
pub standing_stack : {b : List ℕ} {ts : BoundedList Token} (ks ks1 : BoundedList ℕ) (k : ℕ) {m : Mode} {i : ℕ}
    → Becomes ks (k ∷ ks.elements) ks1 → {t0 : BoundedList Token} {s0 : BoundedList ℕ}
    → Standing b t0 s0 ts (with_top ks k) m i → Standing b t0 s0 ts ks1 m i
standing_stack ks ks1 k e s =
    grind (
      arith,
      s.deepest,
      s.settles,
      s.place,
      s.kept,
      e.limit,
      s.stack_limit,
      e.peak,
      s.stack_peak,
      e.room,
      s.stack_room,
      e.within,
    )

-- an array stays the innermost, when tokens come behind it and the first of these is set
pub outer_stays : (ks : List ℕ) (ts us : List Token) {vs : List Token} (k : ℕ) (t : Token) → InArray ks ts
    → length ts ≤ k
    → KeepsTokens ts us → vs ≡ slice_set us k t → InArray ks vs
outer_stays ks ts us k t a l f e = record {
  top = a.top;
  token = a.token;
  innermost = a.innermost;
  there =
      let h = slice_get_within ts a.top a.token a.there in
      rw e (get_before us k a.top t (omega arith) ∙ f a.top a.token a.there);
  kind = a.kind;
}

-- an array opens with the bracket at the place i and is not put on the stack, and a call then leads to the mode n at j
module _ {b : List ℕ} {ts us : BoundedList Token} {ks : BoundedList ℕ} {m : Mode} {i : ℕ} (s : Stands b ts ks m i)
    (v : BeginsValue m) (l : i < length b) (h : byte b i ≡ 91) (f : length ks.elements < ks.limit)
    (e : Becomes ts (ts.elements ++ token_at i 0 0 ∷ []) us) where
  abbrev top : BoundedList ℕ
  top = with_top ks (length ts.elements)

  opens_flat : (t0 : BoundedList Token) (s0 : BoundedList ℕ) → Standing b t0 s0 ts ks m i
      → Standing b t0 s0 us top FirstItem (i + 1)
  opens_flat = grind (arith, stands_within, flat_opened)

  inside : InArray (length ts.elements ∷ ks.elements) us.elements
  inside = grind (arith, stands_within, flat_in)

  pub flat_stands : StandsIn Array b us FirstItem (i + 1)
  flat_stands = record {
    stack = top;
    stands = stands_on s opens_flat;
    innermost = inside;
  }

  module _ {vs : BoundedList Token} {n : Mode} {j : ℕ} (g : LeadsIn Array b us FirstItem (i + 1) vs n j) where
    pub flat_read : (t0 : BoundedList Token) (s0 : BoundedList ℕ) → Standing b t0 s0 ts ks m i
        → Standing b t0 s0 vs top n j
    flat_read t0 s0 z = (g t0 s0 top inside (opens_flat t0 s0 z)).1

    pub flat_innermost : InArray (length ts.elements ∷ ks.elements) vs.elements
    flat_innermost = (g s.tokens0 s.stack0 top inside (opens_flat s.tokens0 s.stack0 s.standing)).0

    pub flat_inside : StandsIn Array b vs n j
    flat_inside = stands_leads flat_stands g

    -- its token, at k, is closed with the bracket at j, and the stack notes that it had an item more
    module _ {k : ℕ} (vs1 : BoundedList Token) {ks1 : BoundedList ℕ} (value : k ≡ length ts.elements)
        (closed : (t : Token) → slice_get vs.elements k ≡ Some t
        → vs1.elements ≡ slice_set vs.elements k (token_at t.start (suc j) (length vs.elements)))
        (p : ks1 ≡ record ks { peak = max ks.peak (length ks.elements + 1) }) where
      closed_at : (t : Token) → slice_get vs.elements (length ts.elements) ≡ Some t
          → vs1.elements ≡ slice_set vs.elements (length ts.elements) (token_at t.start (suc j) (length vs.elements))
      closed_at = grind arith

      pub flat_left : n ≡ After → j < length b → byte b j ≡ 93 → IsWithin ks1 → Grown vs vs1 → (t0 : BoundedList Token)
          (s0 : BoundedList ℕ) → Standing b t0 s0 ts ks m i → Standing b t0 s0 vs1 ks1 After (j + 1)
      flat_left after within bracket w grown t0 s0 z =
          flat_closed b ks (length ts.elements) j within bracket flat_innermost (stands_within s).1 w p closed_at grown
          t0 s0 (subst (λ x. Standing b t0 s0 vs top x j) after (flat_read t0 s0 z))

      pub flat_outer : InArray ks.elements ts.elements → KeepsTokens ts.elements vs.elements
          → InArray ks1.elements vs1.elements
      flat_outer a keeps =
          subst (λ z. InArray z vs1.elements) (sym (ap (λ z. z.elements) p))
          (outer_stays ks.elements ts.elements vs.elements (length ts.elements) _ a (omega arith) keeps
          (closed_at flat_innermost.token (top_there ks.elements (length ts.elements) vs.elements flat_innermost)))

pub index_within : (ks : List ℕ) (k : ℕ) (ts : List Token) → InArray (k ∷ ks) ts → k < length ts
index_within ks k ts a = slice_get_within ts k a.token (top_there ks k ts a)

pub too_deep : {b : List ℕ} {ts : BoundedList Token} {ks : BoundedList ℕ} {m : Mode} {i : ℕ} → Stands b ts ks m i
    → BeginsValue m → i < length b → byte b i ≡ 91 → length ks.elements ≡ ks.limit → {t0 : BoundedList Token}
    → {s0 : BoundedList ℕ} → Standing b t0 s0 ts ks m i → GoesOn b t0 s0 (Err (TooDeep i)) ts ks
too_deep {ts} {ks} {i} s v l h e z = search (arith, stands_within, standing_refused, opens_array, grown_same, kept_same)
