-- Signs and names: where the machine stands behind them.
use Rattle.cj_spans.proofs.Common.{◌≡◌, ℕ, suc, ◌+◌, ◌<◌, List, [], ◌∷◌, ◌++◌, length, Bool, true, false, cond, Option, Some, None, refl, ap, arith, ◌∙◌, slice_get, Kind, Array, Object, Token, Mode, Ready, FirstItem, After, FirstName, NextName, AfterName, Move, To, Open, byte, token_at, Phase, State, state, between, moved, read, after_top, after_token, after_in, step, phase_after, open_link, open_kind, Reaches, on, ComesTo, IsInnermost, InArray, InObject, BeginsValueNext, BeginsNameNext, StaysInArrayNext, StaysInObjectNext, inr, BoundedList, Becomes, Text, InString, in_atom, start, BeginsName, StringLeads, IsQuoted, StandsIn, LeadsIn}
use Rattle.cj_spans.proofs.Spellings.{some_same, none_some}
use Rattle.cj_spans.proofs.Lists.{slice_get-append, slice_get-seam}
use Rattle.cj_spans.proofs.Facts.{idle, settled}
use Rattle.std.specs.Prelude.{IsTrue}
use Rattle.cj_spans.proofs.Atoms.{ends_ok}
use Rattle.cj_spans.proofs.Standing.{standing_small, standing_name_room, standing_room, standing_with, settles_both, grown_same, grown_more}

-- ---- signs: where the machine stands behind a colon and a comma, and which container is then innermost

-- ---- behind a sign

-- a step from where a run has settled
pub step_on : {b : List ℕ} {s t : State} (u : State) → ComesTo b s t → t.place < length b
    → step (byte b t.place) t ≡ Some u
    → Reaches b s u
step_on {b} {t} u h l e = grind (arith, settled, on, h.last.place, t.place, h.settles, h.reached, h.same)

-- a sign takes the machine from one mode to another
sign_read : {b : List ℕ} {s : State} (m n : Mode) {c : ℕ} (ks : List ℕ) (ts : List Token) (k p : ℕ) → k < length b
    → byte b k ≡ c → step c (idle m ks ts k p) ≡ Some (idle n ks ts (suc k) p) → ComesTo b s (idle m ks ts k p)
    → ComesTo b s (idle n ks ts (k + 1) p)
sign_read m n ks ts k p l e go h =
    let r = step_on (idle n ks ts (suc k) p) h l (ap (λ x. step x (idle m ks ts k p)) e ∙ go) in
    let f : suc k ≡ k + 1 = omega arith in
    rw (← f) (record { last = idle n ks ts (suc k) p; reached = r; settles = refl; same = λ _. refl })

-- the colon behind a name
pub colon_read : (b : List ℕ) (s : State) (ks : List ℕ) (ts : List Token) (k p : ℕ) → k < length b → byte b k ≡ 58
    → ComesTo b s (idle AfterName ks ts k p) → ComesTo b s (idle Ready ks ts (k + 1) p)
colon_read b s ks ts k p l e h = grind (arith, sign_read)

-- the comma behind a part of a container of the kind d, in which the mode n comes behind one
pub comma_read : (b : List ℕ) (s : State) {d : Kind} (n : Mode) {ks : List ℕ} {ts : List Token} (k p : ℕ)
    → ((i : ℕ) (t : Token) (u : State) → after_in d 44 i t u ≡ Some (moved (between n) u)) → IsInnermost d ks ts
    → k < length b → byte b k ≡ 44
    → ComesTo b s (idle After ks ts k p) → ComesTo b s (idle n ks ts (k + 1) p)
comma_read b s n {ks} {ts} k p next a l e h = search (arith, sign_read, a.innermost, a.there, a.kind)

-- ---- the innermost container

pub innermost_same : {d : Kind} {ks ls : List ℕ} {ts us : List Token} → ks ≡ ls → ts ≡ us → IsInnermost d ks ts
    → IsInnermost d ls us
innermost_same e f a = rw f at (rw e at a)

-- it stays when tokens are added
pub innermost_more : {d : Kind} {ks : List ℕ} {ts us : List Token} (vs : List Token) → IsInnermost d ks ts
    → us ≡ ts ++ vs
    → IsInnermost d ks us
innermost_more {ts} vs a e = grind (arith, slice_get-append, a.innermost, a.there, a.kind)

-- it is the one that was just opened
pub innermost_opened : (d : Kind) (ks : List ℕ) (ts : List Token) (i : ℕ) → open_kind (token_at i 0 (open_link d)) ≡ d
    → IsInnermost d (length ts ∷ ks) (ts ++ token_at i 0 (open_link d) ∷ [])
innermost_opened d ks ts i e = record {
  top = length ts;
  token = token_at i 0 (open_link d);
  innermost = refl;
  there = slice_get-seam ts [] (token_at i 0 (open_link d));
  kind = e;
}

-- the kind of the container in which the mode comes behind a comma or behind the bracket that opens it
abbrev kind_in : Phase → Option Kind
kind_in (between Ready) = Some Array
kind_in (between FirstItem) = Some Array
kind_in (between FirstName) = Some Object
kind_in (between NextName) = Some Object
kind_in _ = None

-- such a container is innermost in the state, if there is one
abbrev IsIn : Option State → Type 0
IsIn None = Unit {0}
IsIn (Some u) = (d : Kind) → kind_in u.phase ≡ Some d → IsInnermost d u.stack u.tokens

is_in : (g : Kind) {ks : List ℕ} {ts : List Token} → IsInnermost g ks ts → (d : Kind) → Some g ≡ Some d
    → IsInnermost d ks ts
is_in g {ks} {ts} a d w = grind (arith, some_same)

in_cond : (v : Bool) (x y : Option State) → IsIn x → IsIn y → IsIn (cond v x y)
in_cond true x y a b = a
in_cond false x y a b = b

module _ (ks : List ℕ) (ts : List Token) (i p : ℕ) where
  -- behind a part of a container
  after_kind : (c k : ℕ) (t : Token) (g : Kind) → open_kind t ≡ g → slice_get ts k ≡ Some t → slice_get ks 0 ≡ Some k
      → IsIn (after_in g c k t (idle After ks ts i p))
  after_kind c k t Array e f g = grind (arith, in_cond, is_in, none_some)
  after_kind c k t Object e f g = grind (arith, in_cond, is_in, none_some)
  after_kind c k t _ e f g = tt

  after_found : (c k : ℕ) (o : Option Token) → slice_get ts k ≡ o → slice_get ks 0 ≡ Some k
      → IsIn (after_token c k o (idle After ks ts i p))
  after_found c k None f g = tt
  after_found c k (Some t) f g = after_kind c k t (open_kind t) refl f g

  after_part : (c : ℕ) (o : Option ℕ) → slice_get ks 0 ≡ o → IsIn (after_top c o (idle After ks ts i p))
  after_part c None g = tt
  after_part c (Some k) g = after_found c k (slice_get ts k) refl g

  behind_comma : (m : Mode) → IsIn (read m 44 (idle m ks ts i p))
  behind_comma After = after_part 44 (slice_get ks 0) refl
  behind_comma _ = tt

  behind_bracket : (m : Mode) → IsIn (read m 91 (idle m ks ts i p))
  behind_bracket After = after_part 91 (slice_get ks 0) refl
  behind_bracket Ready = search (arith, is_in, innermost_opened)
  behind_bracket FirstItem = search (arith, is_in, innermost_opened)
  behind_bracket _ = tt

  behind_brace : (m : Mode) → IsIn (read m 123 (idle m ks ts i p))
  behind_brace After = after_part 123 (slice_get ks 0) refl
  behind_brace Ready = is_in Object (innermost_opened Object ks ts i refl)
  behind_brace FirstItem = is_in Object (innermost_opened Object ks ts i refl)
  behind_brace _ = tt

module _ (ks ls : List ℕ) (ts us : List Token) (i p j q : ℕ) (m : Mode) where
  -- a state that comes, and in which this container is innermost
  comes : (d c : ℕ) {f : Phase} → c ≡ d → IsIn (read m d (idle m ks ts i p))
      → read m c (idle m ks ts i p) ≡ Some (state f ls us j q) → IsIn (Some (state f ls us j q))
  comes d c e a h = grind arith

  -- an array is innermost behind `[`, and behind a comma after which a value comes
  pub array_next : (c : ℕ) (v : Move) → StaysInArrayNext c v
      → read m c (idle m ks ts i p) ≡ Some (state (phase_after m i v) ls us j q) → InArray ls us
  array_next c (To Ready) e h = grind (arith, comes, behind_comma)
  array_next c (Open Ready) e h = grind (arith, comes, behind_comma)
  array_next c (To FirstItem) e h = grind (arith, comes, behind_bracket)
  array_next c (Open FirstItem) e h = grind (arith, comes, behind_bracket)
  array_next c _ e h = absurd e

  -- an object is innermost behind `{`, and behind a comma after which a name comes
  pub object_next : (c : ℕ) (v : Move) → StaysInObjectNext c v
      → read m c (idle m ks ts i p) ≡ Some (state (phase_after m i v) ls us j q) → InObject ls us
  object_next c (To NextName) e h = grind (arith, comes, behind_comma)
  object_next c (Open FirstName) e h = grind (arith, comes, behind_brace)
  object_next c _ e h = absurd e

pub values_next : (c : ℕ) (v : Move) → StaysInArrayNext c v → BeginsValueNext v
values_next c (To Ready) h = tt
values_next c (To FirstItem) h = tt
values_next c (Open Ready) h = tt
values_next c (Open FirstItem) h = tt
values_next c _ h = absurd h

pub names_next : (c : ℕ) (v : Move) → StaysInObjectNext c v → BeginsNameNext v
names_next c (To NextName) h = tt
names_next c (Open FirstName) h = tt
names_next c _ h = absurd h

-- ---- names and strings of an object: where the pass stands behind each of their parts

-- ---- one step of the machine

-- a quote begins a string where a value or a name may begin
string_begins : (m n : Mode) {c : ℕ} (ks : List ℕ) (ts : List Token) (i p : ℕ) → StringLeads m n → c ≡ 34
    → step c (idle m ks ts i p) ≡ Some (state (in_atom n i InString) ks ts (suc i) p)
string_begins Ready After ks ts i p v e = cc
string_begins FirstName AfterName ks ts i p v e = cc
string_begins NextName AfterName ks ts i p v e = cc
string_begins _ _ ks ts i p v e = absurd v

-- the machine has read a string
string_read : {b : List ℕ} (s : State) (m n : Mode) (ks : List ℕ) (ts : List Token) {us : List Token} {i k : ℕ}
    (p : ℕ) → IsQuoted b i k
    → StringLeads m n → us ≡ ts ++ token_at i k (length ts + 1) ∷ [] → ComesTo b s (idle m ks ts i p)
    → ComesTo b s (idle n ks us k p)
string_read s m n ks ts {i} p q v e h =
    let r = step_on (state (in_atom n i InString) ks ts (suc i) p) h (omega arith)
    (string_begins m n ks ts i p v q.opens) in
    settles_both r (ends_ok i p Text n ks ts q.goes (inr refl) refl e)

pub name_leads : (m : Mode) → BeginsName m → StringLeads m AfterName
name_leads FirstName h = tt
name_leads NextName h = tt
name_leads _ h = absurd h

-- ---- what leads where

module _ (b : List ℕ) (ts : BoundedList Token) where
  pub leads_string : (us : BoundedList Token) (m n : Mode) {i k : ℕ} → StringLeads m n → IsQuoted b i k
      → Becomes ts (ts.elements ++ token_at i k (length ts.elements + 1) ∷ []) us → LeadsIn Object b ts m i us n k
  leads_string us m n {k} v q e = grind (arith, innermost_more, standing_with, grown_more, string_read, q.within)

  pub leads_colon : (k : ℕ) → (k < length b) × (byte b k ≡ 58) → LeadsIn Object b ts AfterName k ts Ready (k + 1)
  leads_colon k h = grind (arith, standing_with, grown_same, colon_read, h.0, h.1)

  pub leads_comma : (k : ℕ) → (k < length b) × (byte b k ≡ 44) → LeadsIn Object b ts After k ts NextName (k + 1)
  leads_comma k h = λ t0 s0 ks a s. (
    a,
    standing_with s NextName (k + 1) (grown_same ts s.kept.within) (omega arith)
        (λ p. comma_read b start NextName k p (λ _ _ _. refl) a h.0 h.1),
  )

  -- ---- what the calls need

  pub name_small : {m : Mode} {i : ℕ} → StandsIn Object b ts m i → i < length b → (length b < 2147483648)
      × (length ts.elements < 2147483648)
  name_small s l =
      let h = s.stands.room.short in
      (omega arith, (standing_small s.stands.standing h l).1)

  pub name_room : {m : Mode} {i : ℕ} → StandsIn Object b ts m i → i < length b → BeginsName m
      → length ts.elements < ts.limit
  name_room s l v = standing_name_room s.stands.standing s.stands.room.room l v

  pub string_room : {i : ℕ} → StandsIn Object b ts Ready i → i < length b → length ts.elements < ts.limit
  string_room s l = standing_room s.stands.standing s.stands.room.room l tt

  pub name_reserved : {m : Mode} {i : ℕ} → StandsIn Object b ts m i → IsTrue ts.reserved
  name_reserved s = s.stands.standing.kept.room s.stands.room.reserved.0
