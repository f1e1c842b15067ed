-- A prefix is what a text begins with: some bytes more make it one.
use Rattle.cj_spans.proofs.Common.{◌≡◌, inl, inr, ℕ, zero, suc, ◌+◌, ◌<◌, ◌≤◌, List, [], ◌∷◌, ◌++◌, length, take, drop, get_or, Option, Some, None, refl, sym, ap, subst, arith, ◌∙◌, slice_get, slice_set, length-append, eq-or-lt_of_le, option_map, option_and_then, common_steps, take-append-drop, Kind, Array, Object, Token, Lex, Mode, Ready, FirstItem, After, FirstName, NextName, AfterName, Tree, nest, byte, Json, JsonPrefix, IsJsonPrefix, SyntaxAt, stuck, short, token_at, flatten_items, open_kind, State, state, in_atom, step, settle, end_atom, lex_step, Reaches, here, on, start, SinksAt, BeginsValue}
use Rattle.std.specs.Prelude.{codes}
use Rattle.std.proofs.lemmas.List.{get_or-append-add}
use Rattle.std.proofs.Math.ListN.{get_or-append}
use Rattle.cj_spans.specs.Meaning.Begins.{BeginsText, IsFirstFault, IsFirstTooDeep}
use Rattle.cj_spans.proofs.Spellings.{some_same, stepped, lex_run}
use Rattle.cj_spans.proofs.ReadSpellings.{can_end}
use Rattle.cj_spans.proofs.Lists.{slice_get-append, slice_get-seam, get_before, rise-nest, run_json}
use Rattle.cj_spans.proofs.Facts.{IsEnd, colon, bracket, brace, Arrives, arrive_on, arrived, settled, settled_step, idle, BeginsName, next_place, same_state, lawful_reaches, state_before}
use Rattle.cj_spans.proofs.Atoms.{atom_goes}
use Rattle.cj_spans.proofs.Sound.{with_name, Context, root, in_array, in_member, Inv, ready, first_item, after_tree, first_name, next_name, after_name, in_scalar, in_name, inv_reaches, front_runs, inv_front}
use Rattle.cj_spans.proofs.Verdicts.{spells, nest_of, sinks_deep, fronts_below, syntax_within}

-- ---- lines that have the same bytes up to a place

transfer : {b : List ℕ} (c : List ℕ) (n : ℕ) → ((k : ℕ) → k < n → byte b k ≡ byte c k) → {s : State} → Reaches b start s
    → s.place ≤ n → Reaches c start s
transfer c n same here l = here
transfer c n same (on t v r h) l =
    let p = next_place v r h in
    on t v (transfer c n same r (omega arith)) (ap (λ z. step z t) (sym (same t.place (omega arith))) ∙ h)

same_byte : (b rest : List ℕ) (i k : ℕ) → i ≤ length b → k < i → get_or b k 0 ≡ get_or (take i b ++ rest) k 0
same_byte b rest i k l h = grind (arith, common_steps)

rest_byte : (b rest : List ℕ) (i n : ℕ) → i ≤ length b → get_or (take i b ++ rest) (i + n) 0 ≡ get_or rest n 0
rest_byte b rest i n l = grind (arith, common_steps)

length_with : (b rest : List ℕ) (i : ℕ) → i ≤ length b → length (take i b ++ rest) ≡ i + length rest
length_with b rest i l = grind (arith, common_steps)

pub text_front : {b : List ℕ} {i : ℕ} → i ≤ length b → BeginsText b i → IsJsonPrefix b i
text_front {b} {i} l x =
    let c = take i b ++ x.rest in
    let v = run_json c x.tree x.json in
    let p = (settled v.at _ v.settles).place in
    let q = length_with b x.rest i l in
    let w = state_before i v.reached (omega arith) in
    let r = transfer b i (λ k h. sym (same_byte b x.rest i k l h)) w.reached (omega arith) in
    record {
      open_count = length w.at.stack;
      front = rw w.place at (inv_front (inv_reaches r));
    }

-- ---- the open containers and what closes them

abbrev kind_at : List Token → ℕ → Option Kind
kind_at ts k = option_map open_kind (slice_get ts k)

abbrev IsContainer : Option Kind → Type 0
IsContainer (Some Array) = Unit {0}
IsContainer (Some Object) = Unit {0}
IsContainer _ = ⊥

-- indices below n
abbrev AreBelow : ℕ → List ℕ → Type 0
AreBelow n [] = Unit {0}
AreBelow n (k ∷ ks) = (k < n) × AreBelow n ks

-- each of a container, and each before those inside it
abbrev AllContainers : List ℕ → List Token → Type 0
AllContainers [] ts = Unit {0}
AllContainers (k ∷ ks) ts = IsContainer (kind_at ts k) × AreBelow k ks × AllContainers ks ts

abbrev closer : Option Kind → ℕ
closer (Some Array) = 93
closer _ = 125

abbrev closers : List ℕ → List Token → List ℕ
closers [] ts = []
closers (k ∷ ks) ts = closer (kind_at ts k) ∷ closers ks ts

-- more tokens leave the containers as they are
container_more : (ts us : List Token) (k : ℕ) → IsContainer (kind_at ts k) → IsContainer (kind_at (ts ++ us) k)
container_more ts us k h = grind (arith, slice_get-append)

containers_more : (ks : List ℕ) (ts us : List Token) → AllContainers ks ts → AllContainers ks (ts ++ us)
containers_more [] ts us h = tt
containers_more (k ∷ ks) ts us h = (container_more ts us k h.0, h.1, containers_more ks ts us h.2)

container_last : (ts : List Token) (t : Token) → IsContainer (Some (open_kind t))
    → IsContainer (kind_at (ts ++ t ∷ []) (length ts))
container_last ts t h = rw (slice_get-seam ts [] t) h

container_below : (ts : List Token) (k : ℕ) → IsContainer (kind_at ts k) → k < length ts
container_below [] k h = absurd h
container_below (z ∷ ts) zero h = omega arith
container_below (z ∷ ts) (suc k) h = omega (arith, container_below ts k h)

containers_below : (ks : List ℕ) (ts : List Token) → AllContainers ks ts → AreBelow (length ts) ks
containers_below [] ts h = tt
containers_below (k ∷ ks) ts h = (container_below ts k h.0, containers_below ks ts h.2)

-- inside a container whose token comes after ts
just_inside : (ks : List ℕ) (ts : List Token) (t : Token) → IsContainer (Some (open_kind t)) → AllContainers ks ts
    → AllContainers (length ts ∷ ks) (ts ++ t ∷ [])
just_inside ks ts t h all = grind (arith, container_last, containers_below, containers_more)

-- the same with more tokens behind it
inside : (ks : List ℕ) (ts : List Token) (t : Token) (us : List Token) → IsContainer (Some (open_kind t))
    → AllContainers ks ts → AllContainers (length ts ∷ ks) ((ts ++ t ∷ []) ++ us)
inside ks ts t us h all = containers_more (length ts ∷ ks) (ts ++ t ∷ []) us (just_inside ks ts t h all)

context_containers : {b : List ℕ} {e : ℕ} {ks : List ℕ} {ts : List Token} → Context b e ks ts → AllContainers ks ts
context_containers (root e w) = tt
context_containers (in_array e j k ks ts us c o l w) =
    inside ks ts (token_at e 0 0) (flatten_items (suc (length ts)) us) tt (context_containers c)
context_containers (in_member e j k l ks ts us n c o m d w) =
    search (arith, containers_more, inside, context_containers c)

-- a token that is written anew leaves those before it as they are
kind_set : (ts : List Token) (k j : ℕ) (u : Token) → j < k → kind_at (slice_set ts k u) j ≡ kind_at ts j
kind_set ts k j u l = cc (get_before ts k j u l)

containers_set : (ks : List ℕ) (ts : List Token) (k : ℕ) (u : Token) → AreBelow k ks → AllContainers ks ts
    → AllContainers ks (slice_set ts k u)
containers_set [] ts k u l h = tt
containers_set (j ∷ ks) ts k u l h = grind (arith, kind_set, containers_set ks ts k u l.1 h.2, l.0, h.0, h.1, l.1, h.2)

closers_set : (ks : List ℕ) (ts : List Token) (k : ℕ) (u : Token) → AreBelow k ks
    → closers ks (slice_set ts k u) ≡ closers ks ts
closers_set [] ts k u l = refl
closers_set (j ∷ ks) ts k u l = cc (kind_set ts k j u l.0, closers_set ks ts k u l.1)

-- from the place j on, the line has these bytes and no more
record Has (c : List ℕ) (j : ℕ) (cs : List ℕ) : Type 0 where
  whole : length c ≡ j + length cs
  bytes : (n : ℕ) → n < length cs → byte c (j + n) ≡ get_or cs n 0

has_head : (c : List ℕ) (j x : ℕ) (cs : List ℕ) → Has c j (x ∷ cs) → byte c j ≡ x
has_head c j x cs h = let e : j ≡ j + 0 = omega arith in cc (h.bytes 0 (omega arith))

has_tail : (c : List ℕ) (j x : ℕ) (cs : List ℕ) → Has c j (x ∷ cs) → Has c (suc j) cs
has_tail c j x cs h =
    record {
      whole = omega arith;
      bytes = λ n l. let e : suc j + n ≡ j + suc n = omega arith in
          ap (byte c) e ∙ h.bytes (suc n) (omega arith);
    }

close_step : (k : ℕ) (ks : List ℕ) (ts : List Token) (j p : ℕ) (t : Token) (kd : Kind) → slice_get ts k ≡ Some t
    → open_kind t ≡ kd → IsContainer (Some kd)
    → step (closer (Some kd)) (idle After (k ∷ ks) ts j p)
    ≡ Some (idle After ks (slice_set ts k (token_at t.start (suc j) (length ts))) (suc j) p)
close_step k ks ts j p t Array e q h = let s = idle After (k ∷ ks) ts j p in
    cc
close_step k ks ts j p t Object e q h = let s = idle After (k ∷ ks) ts j p in
    cc
close_step k ks ts j p t _ e q h = absurd h

closer_end : (kd : Kind) → IsContainer (Some kd) → IsEnd (closer (Some kd))
closer_end Array h = bracket
closer_end Object h = brace
closer_end _ h = absurd h

-- the machine comes to the end of the line, where a text may end
record Ended (c : List ℕ) (p : ℕ) : Type 0 where
  tokens : List Token
  arrives : Arrives c start (idle After [] tokens (length c) p)

-- one container is closed
close_one : {c : List ℕ} (ks : List ℕ) (ts : List Token) (k j : ℕ) {p : ℕ} (o : Option Token) → slice_get ts k ≡ o
    → Arrives c start (idle After (k ∷ ks) ts j p) → IsContainer (option_map open_kind o)
    → byte c j ≡ closer (option_map open_kind o)
    → ((u : Token) → Reaches c start (idle After ks (slice_set ts k u) (suc j) p) → Ended c p) → Ended c p
close_one ks ts k j None e a h b next = absurd h
close_one ks ts k j {p} (Some t) e a h b next =
    let u = token_at t.start (suc j) (length ts) in
    let s = idle After (k ∷ ks) ts j p in
    let r = arrive_on (idle After ks (slice_set ts k u) (suc j) p) (subst IsEnd (sym b) (closer_end (open_kind t) h)) a
    (ap (λ z. step z s) b ∙ close_step k ks ts j p t (open_kind t) e refl h) in
    next u r

close_all : (ks : List ℕ) {c cs : List ℕ} (ts : List Token) {j : ℕ} (p : ℕ) → Arrives c start (idle After ks ts j p)
    → AllContainers ks ts → closers ks ts ≡ cs → Has c j cs → Ended c p
close_all [] {c} {cs} ts {j} p a all e h =
    let n : length cs ≡ 0 = sym (ap length e) in
    let q : j ≡ length c = omega arith in
    record { tokens = ts; arrives = rw q at a }
close_all (k ∷ ks) {c} ts {j} p a all e h =
    close_one ks ts k j (slice_get ts k) refl a all.0 (has_head c j _ _ (subst (Has c j) (sym e) h)) (λ u r.
    close_all ks (slice_set ts k u) {j = suc j} p
    (arrived After ks (slice_set ts k u) (suc j) p r) (containers_set ks ts k u all.1 all.2)
    (closers_set ks ts k u all.1) (has_tail c j _ _ (subst (Has c j) (sym e) h)))

-- ---- a value after the front

-- the machine over these bytes
abbrev over : List ℕ → State → Option State
over [] s = Some s
over (x ∷ w) s = option_and_then (over w) (step x s)

then_more : (f g h : State → Option State) → ((t : State) → h t ≡ option_and_then g (f t)) → (o : Option State)
    → option_and_then h o ≡ option_and_then g (option_and_then f o)
then_more f g h e None = refl
then_more f g h e (Some t) = e t

over-append : (v w : List ℕ) (s : State) → over (v ++ w) s ≡ option_and_then (over w) (over v s)
over-append [] w s = refl
over-append (x ∷ v) w s = then_more (over v) (over w) (over (v ++ w)) (λ t. over-append v w t) (step x s)

-- it comes so far in a line that has them
runs_over : {c : List ℕ} (w : List ℕ) {s : State} (t : State) → Reaches c start s
    → ((n : ℕ) → n < length w → byte c (s.place + n) ≡ get_or w n 0) → over w s ≡ Some t → Reaches c start t
runs_over {c} [] t r b h = subst (Reaches c start) (some_same _ t h) r
runs_over {c} (x ∷ w) {s} t r b h =
    let q = stepped (over w) (step x s) t h in
    let z : s.place ≡ s.place + 0 = omega arith in
    let go : step (byte c s.place) s ≡ Some q.0 = ap (λ k. step k s) (ap (byte c) z ∙ b 0 (omega arith)) ∙ q.1 in
    let p = next_place q.0 r go in
    runs_over w t (on s q.0 r go) (λ n l.
    let e : q.0.place + n ≡ s.place + suc n = omega arith in ap (byte c) e ∙ b (suc n) (omega arith)) q.2

-- over what a scalar or a name goes on with
over_atom : (r : List ℕ) (m : Mode) (a k p : ℕ) (ks : List ℕ) (ts : List Token) (x y : Lex) → lex_run r x ≡ Some y
    → over r (state (in_atom m a x) ks ts k p) ≡ Some (state (in_atom m a y) ks ts (k + length r) p)
over_atom [] m a k p ks ts x y h = grind (arith, some_same, in_atom)
over_atom (d ∷ r) m a k p ks ts x y h =
    let w = stepped (lex_run r) (lex_step x d) y h in
    let q : suc k + length r ≡ k + suc (length r) = omega arith in
    ap (option_and_then (over r)) (atom_goes d ks ts m a k p x w.0 w.1) ∙ over_atom r m a (suc k) p ks ts w.0 y w.2
    ∙ ap (λ n. Some (state (in_atom m a y) ks ts n p)) q

-- bytes after which the value that is begun, or is to come, has ended
record Finish (s : State) : Type 0 where
  rest : List ℕ
  stack : List ℕ
  tokens : List Token
  containers : AllContainers stack tokens
  goes : (c : List ℕ) → Reaches c start s → ((n : ℕ) → n < length rest → byte c (s.place + n) ≡ get_or rest n 0)
      → Arrives c start (idle After stack tokens (s.place + length rest) s.deepest)

finish_by : {s t : State} {us : List Token} (j : ℕ) (ks w : List ℕ) → j ≡ s.place + length w → AllContainers ks us
    → over w s ≡ Some t → settle t ≡ Some (idle After ks us j s.deepest) → Finish s
finish_by {s} {t} {us} j ks w q all h e = record {
  rest = w;
  stack = ks;
  tokens = us;
  containers = all;
  goes = λ c r b. subst (λ n. Arrives c start (idle After ks us n s.deepest)) q
      (record { at = t; reached = runs_over w t r b h; settles = e });
}

module _ (k p : ℕ) (ks : List ℕ) (ts : List Token) (all : AllContainers ks ts) where
  finish_value : (m : Mode) → BeginsValue m → Finish (idle m ks ts k p)
  finish_value Ready h = finish_by (suc k) ks (codes "0") (omega arith) (containers_more ks ts _ all) refl refl
  finish_value FirstItem h = finish_by (suc k) ks (codes "0") (omega arith) (containers_more ks ts _ all) refl refl
  finish_value _ h = absurd h

  -- an empty name
  finish_name : (m : Mode) → BeginsName m → Finish (idle m ks ts k p)
  finish_name FirstName h =
      finish_by (suc (suc (suc (suc k)))) ks (codes "\"\":0") (omega arith)
      (containers_more ks (with_name ts k (suc (suc k))) _ (containers_more ks ts _ all)) refl refl
  finish_name NextName h =
      finish_by (suc (suc (suc (suc k)))) ks (codes "\"\":0") (omega arith)
      (containers_more ks (with_name ts k (suc (suc k))) _ (containers_more ks ts _ all)) refl refl
  finish_name _ h = absurd h

  finish_tree : Finish (idle After ks ts k p)
  finish_tree = finish_by k ks [] (omega arith) all refl refl

  finish_colon : Finish (idle AfterName ks ts k p)
  finish_colon = finish_by (suc (suc k)) ks (codes ":0") (omega arith) (containers_more ks ts _ all) refl refl

  finish_scalar : (e : ℕ) (x : Lex) → Finish (state (in_atom After e x) ks ts k p)
  finish_scalar e x =
      let z = can_end x in
      let n = k + length z.rest in
      finish_by n ks z.rest refl (containers_more ks ts _ all)
      (over_atom z.rest After e k p ks ts x z.last z.run)
      (ap (λ o. end_atom After e o (state (in_atom After e z.last) ks ts n p)) z.done)

  finish_in_name : (l : ℕ) (x : Lex) → Finish (state (in_atom AfterName l x) ks ts k p)
  finish_in_name l x =
      let z = can_end x in
      let n = k + length z.rest in
      let us = with_name ts l n in
      let s = state (in_atom AfterName l z.last) ks ts n p in
      let named : settle s ≡ Some (idle AfterName ks us n p) = ap (λ o. end_atom AfterName l o s) z.done in
      finish_by (suc (suc n)) ks (z.rest ++ 58 ∷ 48 ∷ [])
      (omega (arith, length-append z.rest (58 ∷ 48 ∷ [])))
      (containers_more ks us _ (containers_more ks ts _ all))
      (over-append z.rest (58 ∷ 48 ∷ []) (state (in_atom AfterName l x) ks ts k p)
      ∙ ap (option_and_then (over (58 ∷ 48 ∷ []))) (over_atom z.rest AfterName l k p ks ts x z.last z.run)
      ∙ ap (option_and_then (over (48 ∷ []))) (settled_step s (idle AfterName ks us n p) colon named)) refl

finish : {b : List ℕ} {s : State} → Inv b s → Finish s
finish (ready k p ks ts c) = finish_value k p ks ts (context_containers c) Ready tt
finish (first_item e k p ks ts c o w) = grind (arith, finish_value, just_inside, context_containers)
finish (after_tree e j k p ks ts t c v w) = grind (arith, finish_tree, containers_more, context_containers)
finish (first_name e k p ks ts c o w) = grind (arith, finish_name, just_inside, context_containers)
finish (next_name e j k p ks ts us c o l w) = grind (arith, finish_name, inside, context_containers)
finish (after_name e j l m k p ks ts us c o ld w0 wd w) =
    search (arith, finish_colon, containers_more, inside, context_containers)
finish (in_scalar e k p ks ts x c w) = finish_scalar k p ks ts (context_containers c) e x
finish (in_name e j l k p ks ts us x c o ld w0 q w) = grind (arith, finish_in_name, inside, context_containers)

-- ---- fronts and texts

-- a text that begins so, and its nest
record TextOf (b : List ℕ) (i p : ℕ) : Type 0 where
  text : BeginsText b i
  nest_is : p ≡ nest text.tree

state_text : {b : List ℕ} {i : ℕ} → i ≤ length b → {s : State} → Reaches b start s → s.place ≡ i → TextOf b i s.deepest
state_text {b} {i} l {s} reached e =
    let z = finish (inv_reaches reached) in
    let cs = closers z.stack z.tokens in
    let rest = z.rest ++ cs in
    let c = take i b ++ rest in
    let r = transfer c i (λ k h. same_byte b rest i k l h) reached (omega arith) in
    let m = length z.rest in
    let a = z.goes c r (λ n h. ap (λ q. byte c (q + n)) e ∙ rest_byte b rest i n l ∙ get_or-append z.rest cs 0 n h) in
    let w1 = length_with b rest i l in
    let w2 = length-append z.rest cs in
    let h : Has c (s.place + m) cs = record {
      whole = omega arith;
      bytes = λ n g. (let q : (s.place + m) + n ≡ i + (m + n) = omega arith in ap (byte c) q)
          ∙ rest_byte b rest i (m + n) l ∙ get_or-append-add z.rest cs n 0;
    } in
    let d = close_all z.stack z.tokens s.deepest a z.containers refl h in
    let t = spells (inv_reaches d.arrives.reached) d.tokens s.deepest d.arrives.settles in
    record {
      text = record { rest = rest; tree = t.tree; json = t.json };
      nest_is = nest_of t.tree d.tokens s.deepest t.json d.arrives.reached d.arrives.settles;
    }

pub front_text : {b : List ℕ} {i : ℕ} → i ≤ length b → IsJsonPrefix b i → BeginsText b i
front_text l f = let v = front_runs f.front start Ready [] [] 0 tt here in
    (state_text l v.reached v.place).text

-- the place of a fault, told by texts
pub first_fault : {b : List ℕ} {i : ℕ} → SyntaxAt b i → IsFirstFault b i
first_fault {b} {i} s =
    let w = syntax_within s in
    record {
      within = w;
      earlier = λ k h. front_text (omega arith) (fronts_below s k h);
      here = λ l x. here_not s l x;
      whole = λ e t j. whole_not s e t j;
    }
  where
    here_not : SyntaxAt b i → i < length b → BeginsText b (suc i) → ⊥
    here_not (stuck l f n) h x = n (text_front h x)
    here_not (short e f n) h x = absurd (omega arith)

    whole_not : SyntaxAt b i → i ≡ length b → (t : Tree) → Json b t → ⊥
    whole_not (stuck l f n) e t j = absurd (omega arith)
    whole_not (short e f n) h t j = n t j

-- a text has none
pub text_no_fault : (b : List ℕ) (t : Tree) → Json b t → (i : ℕ) → IsFirstFault b i → ⊥
text_no_fault b t j i f = elim (eq-or-lt_of_le f.within) [
  | inr l ↦ f.here l (record
      { rest = drop (suc i) b; tree = t; json = rw (take-append-drop (suc i) b) j })
  | inl e ↦ f.whole e t j
]

-- a text that begins so opens as many containers as the line does
text_nest : {b : List ℕ} {i : ℕ} (n : ℕ) → i ≤ length b → JsonPrefix b 0 i n → (x : BeginsText b i) → n ≤ nest x.tree
text_nest {b} {i} n l f x =
    let c = take i b ++ x.rest in
    let u = front_runs f start Ready [] [] 0 tt here in
    let r = transfer c i (λ k h. same_byte b x.rest i k l h) u.reached (let e = u.place in omega arith) in
    let v = run_json c x.tree x.json in
    let e = settled v.at _ v.settles in
    let q = length_with b x.rest i l in
    let w = state_before i v.reached (omega arith) in
    let same : u.at ≡ w.at = same_state r w.reached (u.place ∙ sym w.place) in
    let a = (lawful_reaches u.reached).deep in
    let s : u.at.deepest ≡ w.at.deepest = cc same in
    let g = rise-nest 0 0 x.tree (omega arith) in
    omega arith

-- the place that is too deep, told by texts
pub first_too_deep : {b : List ℕ} {d i : ℕ} → SinksAt b d i → IsFirstTooDeep b d i
first_too_deep {b} {d} {i} a =
    let k = sinks_deep a in
    let w = a.within in
    record {
      begins = front_text (omega arith) (record { open_count = suc d; front = k.deep });
      each = λ x. text_nest (suc d) (omega arith) k.deep x;
      earlier = λ j h. shallow_text j h;
    }
  where
    shallow_text : (j : ℕ) → j < i → (x : BeginsText b (suc j)) × (nest x.tree ≤ d)
    shallow_text j h =
        let s = state_before (suc j) a.reached (omega arith) in
        let t = state_text (omega arith) s.reached s.place in
        (t.text, omega arith)
