-- Arrays of three whole numbers, told by their tokens and by the bytes between their brackets.
use Rattle.cj_spans.proofs.Common.{◌≡◌, ℕ, zero, suc, ◌+◌, ◌-◌, ◌<◌, ◌≤◌, List, [], ◌∷◌, ◌++◌, length, drop, get_or, slice_get, slice_range, Bool, true, false, nat_eq, Option, Some, None, ◌⊎◌, inl, inr, refl, sym, ap, subst, arith, ◌∙◌, All, cases_lt, nat_tests, append-nil, drop-drop, slice_get_within, Token, Kind, Number, Lex, Tree, size, byte, is_number, kind_by, node, lex_kind, kind_of, items_of, spelling_of, spans_of, before, link_of, IsNumber, IsFrac, IsExp, tree_at, IsWholeSign}
use Rattle.std.specs.Coded.{coded_bool}
use mathlib.Core.Logic.{∥∥₁_elim}
use denote.Struct.Props.{≡_prop}
use Rattle.cj_spans.specs.Wholes.{IsWholeNumber, IsShortWhole}
use Rattle.cj_spans.proofs.Places.{slice_has, slice-length}
use Rattle.cj_spans.specs.declared.node.Source.{Source}
use Rattle.cj_spans.proofs.Sizes.{full_sized, before_walked}
use Rattle.cj_spans.proofs.Spellings.{some_same, reading, reading_sound}
use Rattle.cj_spans.proofs.ReadSpellings.{reading_whole}
use Rattle.cj_spans.proofs.Views.{below, below_at, kind_shown, spelling_shown}
use Rattle.cj_spans.proofs.Walks.{before_drop, starts_before}
use Rattle.cj_spans.proofs.SourceWalks.{LinksTo, items_from_link, item_on, shown_none, whole_later}

-- ---- a number of which it is known that there is a proof

-- whether it is the kind of a number
abbrev is_numeral : Option Kind → Bool
is_numeral None = false
is_numeral (Some k) = is_number k

-- whether a reading ends a number
abbrev ends_number : Option Lex → Bool
ends_number None = false
ends_number (Some x) = is_numeral (lex_kind x)

kind_so : (k : Kind) → is_number k ≡ true → k ≡ Number
kind_so Number e = refl
kind_so _ e = cc

pub number_of_spelling : (s : List ℕ) → ∥ IsNumber s ∥₁ → IsNumber s
number_of_spelling s m =
    go (reading s) refl (∥∥₁_elim m (≡_prop coded_bool _ _) (λ n. let w = reading_whole Number s n in
    ap ends_number w.run ∙ ap is_numeral w.kind))
  where
    by_kind : (x : Lex) → reading s ≡ Some x → (o : Option Kind) → lex_kind x ≡ o → is_numeral o ≡ true → IsNumber s
    by_kind x h None e f = absurd (cc)
    by_kind x h (Some k) e f = reading_sound s x Number h (e ∙ ap Some (kind_so k f))

    go : (o : Option Lex) → reading s ≡ o → ends_number o ≡ true → IsNumber s
    go None h f = absurd (cc)
    go (Some x) h f = by_kind x h (lex_kind x) refl f

-- ---- what no point and no exponent means

-- neither a point nor the sign of an exponent
abbrev IsInWhole : ℕ → Type 0
IsInWhole b = (b ≡ 46 → ⊥) × ((b ≡ 101 → ⊥) × (b ≡ 69 → ⊥))

abbrev EachInWhole : List ℕ → Type 0
EachInWhole [] = Unit {0}
EachInWhole (b ∷ s) = IsInWhole b × EachInWhole s

each_right : (s t : List ℕ) → EachInWhole (s ++ t) → EachInWhole t
each_right [] t h = h
each_right (b ∷ s) t h = each_right s t h.1

each_from : (s : List ℕ) → ((n : ℕ) → n < length s → IsInWhole (get_or s n 0)) → EachInWhole s
each_from [] h = tt
each_from (b ∷ s) h = (h 0 (omega arith), each_from s (λ n l. h (suc n) (omega arith)))

no_frac : (f e : List ℕ) → IsFrac f → EachInWhole (f ++ e) → f ≡ []
no_frac [] e h g = refl
no_frac (b ∷ f) e h g = absurd (g.0.0 h.0)

not_mark : (b : ℕ) → IsInWhole b → (b ≡ 101) ⊎ (b ≡ 69) → ⊥
not_mark b g (inl small) = g.1.0 small
not_mark b g (inr capital) = g.1.1 capital

no_exp : (e : List ℕ) → IsExp e → EachInWhole e → e ≡ []
no_exp [] h g = refl
no_exp (b ∷ e) h g = absurd (not_mark b g.0 h.0)

pub whole_from : {s : List ℕ} → IsNumber s → ((n : ℕ) → n < length s → IsInWhole (get_or s n 0)) → IsWholeNumber s
whole_from {s} w each =
    let all = subst EachInWhole w.joined (each_from s each) in
    let right = each_right w.int (w.frac ++ w.exp) (each_right w.minus (w.int ++ (w.frac ++ w.exp)) all) in
    let f = no_frac w.frac w.exp w.frac_is right in
    let e = no_exp w.exp w.exp_is (each_right w.frac w.exp right) in
    let rest : w.int ++ (w.frac ++ w.exp) ≡ w.int = cc (f, e, append-nil w.int) in
    record {
      minus = w.minus;
      int = w.int;
      minus_is = w.minus_is;
      int_is = w.int_is;
      joined = w.joined
          ∙ ap (λ z. w.minus ++ z) rest;
    }

-- ---- a sign of whole numbers, or the bracket after them

abbrev IsSign : ℕ → Type 0
IsSign b = ((44 ≤ b) × (b ≤ 57) × (nat_eq b 46 ≡ false)) ⊎ (b ≡ 93)

sign_kind : (b : ℕ) → IsSign b → kind_by b ≡ Number
sign_kind b (inl h) = let low = h.0 in let high = h.1 in grind (arith, nat_tests)
sign_kind b (inr h) = grind (arith, nat_tests)

sign_in : (b : ℕ) → IsSign b → IsInWhole b
sign_in b (inl h) = grind arith
sign_in b (inr h) = grind arith

number_size : (b : List ℕ) (i j : ℕ) (ts : List Tree) → kind_by (byte b i) ≡ Number
    → size (node b (kind_by (byte b i)) i j ts) ≡ 1
number_size b i j ts e = cc

all_three : (P : Tree → Type 0) (x y z : Tree) → P x → P y → P z → All P (x ∷ y ∷ z ∷ [])
all_three P x y z px py pz zero d l = px
all_three P x y z px py pz (suc zero) d l = py
all_three P x y z px py pz (suc (suc zero)) d l = pz
all_three P x y z px py pz (suc (suc (suc k))) d l = absurd (omega arith)

-- ---- three tokens in an array

-- there is room between the brackets of an array
pub room_within : (b : List ℕ) (i j : ℕ) → i < j → byte b i ≡ 91 → byte b (j - 1) ≡ 93 → i + 1 ≤ j - 1
room_within b i j l first last = grind arith

-- a part of the array
pub record Part (b : List ℕ) (ts : List Token) (t : Token) (m : ℕ) (u : Token) : Type 0 where
  pub here : slice_get ts m ≡ Some u
  pub after : t.start < u.start
  pub some : u.start < u.stop
  pub before_end : u.stop ≤ t.stop
  pub kind : kind_of (tree_at b (spans_of ts) m) ≡ Number
  pub whole : IsWholeNumber (spelling_of b (tree_at b (spans_of ts) m))
  pub long : length (spelling_of b (tree_at b (spans_of ts) m)) ≡ u.stop - u.start
  pub lone : link_of u ≡ m + 1

module _ (source : Source) where
  abbrev b : List ℕ
  b = source.line.now

  abbrev ts : List Token
  ts = source.tokens.now

  abbrev tree_of : ℕ → Tree
  tree_of m = tree_at b (spans_of ts) m

  module _ (k : ℕ) (t : Token) (here : slice_get ts k ≡ Some t) (array : byte b t.start ≡ 91)
      (four : k + 1 + before t.stop (drop (k + 1) ts) ≡ k + 4)
      (signs : (i : ℕ) → t.start + 1 ≤ i → i < t.stop - 1 → IsWholeSign (byte b i)) where
    -- the parts start before the array ends
    inside : (m : ℕ) (u : Token) → k < m → m < k + 4 → slice_get ts m ≡ Some u → u.start < t.stop
    inside m u l h g =
        let j = t.stop in
        let n = m - (k + 1) in
        let d = drop (k + 1) ts in
        let at : k + 1 + n ≡ m = omega arith in
        let left = before_drop j n d (omega arith) in
        let there : before j (drop n d) ≡ before j (drop m ts) = ap (before j) (drop-drop n (k + 1) ts)
        ∙ ap (λ x. before j (drop x ts)) at in
        starts_before ts j m u g (omega arith)

    sign_at : (i : ℕ) → t.start < i → i < t.stop → IsSign (byte b i)
    sign_at i l h =
        elim (cases_lt i (t.stop - 1)) [
          | inl o ↦ inl (signs i (omega arith) o)
          | inr g ↦ let e : i ≡ t.stop - 1 = omega arith in inr (ap (byte b) e ∙ (source.spelled k t here).1 array)
        ]

    part : (m : ℕ) (u : Token) → k < m → m < k + 4 → slice_get ts m ≡ Some u → Part b ts t m u
    part m u l h g =
        let after = source.rising k m t u l here g in
        let o = inside m u l h g in
        let end = source.nested k t here m u (omega arith) g o in
        let w = source.within m u g in
        let some = w.0 in
        let number = sign_kind (byte b u.start) (sign_at u.start after o) in
        let shown = spelling_shown b ts m u g in
        let long = slice-length b u.start u.stop (omega arith) w.1 in
        let whole =
        whole_from (number_of_spelling (slice_range b u.start u.stop) ((source.spelled m u g).0 number))
        (λ n f. subst IsInWhole (slice_has b u.start u.stop n f)
        (sign_in (byte b (u.start + n)) (sign_at (u.start + n) (omega arith) (omega arith)))) in
        let tree = below_at b ts m u g in
        let one = ap size tree.tree ∙ number_size b u.start u.stop _ number in
        let link = full_sized b ts source.nested source.linked source.full m u g in
        record {
          here = g;
          after = after;
          some = some;
          before_end = end;
          kind = sym (kind_shown b ts m u g (sym number));
          whole = subst IsWholeNumber shown whole;
          long = ap length (sym shown) ∙ omega (arith, long);
          lone = omega arith;
        }

    -- the next part starts after one stops
    apart : (m : ℕ) (u v : Token) → Part b ts t m u → slice_get ts (m + 1) ≡ Some v → u.stop ≤ v.start
    apart m u v p g =
        elim (cases_lt v.start u.stop) [
          | inl l ↦
              let e = source.linked m u p.here in
              let f = p.lone in
              let n = before_walked ts u.stop (m + 1 + before u.stop (drop (m + 1) ts)) (m + 1) v g l refl in
              absurd (omega arith)
          | inr o ↦ o
        ]

    links : (m : ℕ) (u : Token) → Part b ts t m u → LinksTo ts m (m + 1)
    links m u p = grind (arith, some_same, p.here, p.lone)

    -- the three parts, and that they are all
    pub record Three : Type 0 where
      pub reach : k + 4 ≤ length ts
      pub x : Token
      pub y : Token
      pub z : Token
      pub x_part : Part b ts t (k + 1) x
      pub y_part : Part b ts t (k + 2) y
      pub z_part : Part b ts t (k + 3) z
      pub x_y : x.stop ≤ y.start
      pub y_z : y.stop ≤ z.start
      pub all : items_of (tree_of k) ≡ tree_of (k + 1) ∷ tree_of (k + 2) ∷ tree_of (k + 3) ∷ []

    pub three : Three
    three =
        let known = slice_get_within ts k t here in
        let to_end : LinksTo ts k (k + 4) = λ u g. sym four
        ∙ ap (λ (v : Token). k + 1 + before v.stop (drop (k + 1) ts)) (some_same t u (sym here ∙ g)) in
        let w = items_from_link source k (k + 4) {n = k + 4} known to_end
        (kind_shown b ts k t here (sym (ap kind_by array))) refl in
        let reach = w.whole.0 in
        let fx = below b ts (k + 1) (omega arith) in
        let fy = below b ts (k + 2) (omega arith) in
        let fz = below b ts (k + 3) (omega arith) in
        let px = part (k + 1) fx.0 (omega arith) (omega arith) fx.1 in
        let py = part (k + 2) fy.0 (omega arith) (omega arith) fy.1 in
        let pz = part (k + 3) fz.0 (omega arith) (omega arith) fz.1 in
        let e2 : k + 1 + 1 ≡ k + 2 = omega arith in
        let e3 : k + 2 + 1 ≡ k + 3 = omega arith in
        let e4 : k + 3 + 1 ≡ k + 4 = omega arith in
        let w1 = w.whole in
        let w2 = whole_later source (k + 1) (k + 2) (k + 4) (omega arith) w1 in
        let w3 = whole_later source (k + 1) (k + 3) (k + 4) (omega arith) w1 in
        let s1 = item_on source (k + 1) (k + 4) (k + 2) w1 (omega arith)
        (subst (LinksTo ts (k + 1)) e2 (links (k + 1) fx.0 px)) in
        let s2 = item_on source (k + 2) (k + 4) (k + 3) w2 (omega arith)
        (subst (LinksTo ts (k + 2)) e3 (links (k + 2) fy.0 py)) in
        let s3 = item_on source (k + 3) (k + 4) (k + 4) w3 (omega arith)
        (subst (LinksTo ts (k + 3)) e4 (links (k + 3) fz.0 pz)) in
        let s4 = shown_none source (k + 4) (k + 4) (omega arith) in
        record {
          reach = reach;
          x = fx.0;
          y = fy.0;
          z = fz.0;
          x_part = px;
          y_part = py;
          z_part = pz;
          x_y = apart (k + 1) fx.0 fy.0 px (subst (λ n. slice_get ts n ≡ Some fy.0) (sym e2) fy.1);
          y_z = apart (k + 2) fy.0 fz.0 py (subst (λ n. slice_get ts n ≡ Some fz.0) (sym e3) fz.1);
          all = cc (w.all, s1, s2, s3, s4);
        }

    -- what is asked of a part
    whole_part : (m : ℕ) (u : Token) → Part b ts t m u → u.stop ≤ u.start + 18
        → IsShortWhole b (tree_of m)
    whole_part m u p l = grind (arith, p.long, p.some, p.kind, p.whole)

    pub wholes : ((m : ℕ) (u : Token) → k < m → m < k + 4 → slice_get ts m ≡ Some u → u.stop ≤ u.start + 18)
        → All (IsShortWhole b) (items_of (tree_of k))
    wholes short =
        let w = three in
        subst (All (IsShortWhole b)) (sym w.all)
        (all_three (IsShortWhole b) (tree_of (k + 1)) (tree_of (k + 2))
        (tree_of (k + 3))
        (whole_part (k + 1) w.x w.x_part (short (k + 1) w.x (omega arith) (omega arith) w.x_part.here))
        (whole_part (k + 2) w.y w.y_part (short (k + 2) w.y (omega arith) (omega arith) w.y_part.here))
        (whole_part (k + 3) w.z w.z_part (short (k + 3) w.z (omega arith) (omega arith) w.z_part.here)))

    -- in so few bytes each is short
    pub few_wholes : t.stop ≤ t.start + 21 → All (IsShortWhole b) (items_of (tree_of k))
    few_wholes l = grind (arith, three, all_three, whole_part)

    pub three_long : length (items_of (tree_of k)) ≡ 3
    three_long = ap length three.all
