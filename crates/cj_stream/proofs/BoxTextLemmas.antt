-- What reading a box goes by: the fields that come one after another, the number of each, and the answer.
use Rattle.cj_stream.proofs.Common.{Bool, Bor, Box, Err, FindsChar, IfSome, IsSome, List, None, Number, Ok, Option, QueryFault, Result, Some, Split, [], ap, append-nil, append_assoc, false, fields, if◌then◌else◌, is_fixed, is_number, refl, sym, true, units_of, ℕ, ℤ, ◌++◌, ◌↔◌, ◌∙◌, ◌∷◌, ◌≡◌, YieldsList-from_str_split, lit<, arith, nat_tests}
use Rattle.std.specs.Iterator.{AlwaysYields}
use Rattle.std.specs.Str.Iter.{split_steps, split_text, split_has_more, split_pattern}
use Rattle.cj_decimal.specs.Meaning.Equality.{IsNormal, IsInRange, IsFixed}
use Rattle.cj_decimal.specs.Meaning.Spelling.{SpellsNumber, IsValue, IsNumberOutOfRange}
use Rattle.cj_decimal.specs.Meaning.Class.{Class, no_number, out_of_range, not_whole, whole, value_by}
use Rattle.cj_decimal.proofs.Classes.{class, has_one_value, not_both, value_is_number}
use Rattle.cj_feature.proofs.Rules.{test-decides, units-only}
use Rattle.cj_stream.specs.BoxText.{is_number_by, is_edge, edge, is_empty, box_text}
use Rattle.cj_stream.specs.declared.query.fault.QueryFault.TheVariants.{BadBox, BoxRange, EmptyBox}

-- ---- the fields of a text

-- calls of the iterator over the fields of a text
abbrev pub steps : Split ℕ → Option (Bor (List ℕ)) → Split ℕ → Type 0
steps = split_steps FindsChar (λ a b. b ≡ a)

-- what is still to come
abbrev pub Gives : Split ℕ → List (List ℕ) → Type 0
Gives s fs = AlwaysYields steps (λ x. x.now) s fs

module _ (s t : Split ℕ) where
  next-some : (fs : List (List ℕ)) (x : Bor (List ℕ)) → Gives s fs → steps s (Some x) t → (rest : List (List ℕ))
      × (fs ≡ x.now ∷ rest) × Gives t rest
  next-some [] x h k = absurd (h x t k)
  next-some (y ∷ ys) x h k = (ys, ap (λ z. z ∷ ys) (sym (h.1 x t k).0), (h.1 x t k).1)

  next-none : (fs : List (List ℕ)) → Gives s fs → steps s None t → fs ≡ []
  next-none [] h k = refl
  next-none (y ∷ ys) h k = absurd (h.0 t k)

-- of these fields the front ones came, and the iterator gives the rest
pub record Came (fs front : List (List ℕ)) (s : Split ℕ) : Type 0 where
  pub rest : List (List ℕ)
  pub whole : fs ≡ front ++ rest
  pub gives : Gives s rest

pub came-first : (text : List ℕ) (s : Split ℕ) → split_text s ≡ text → split_has_more s ≡ true → split_pattern s ≡ 44
    → Came (fields text) [] s
came-first text s is more sign = record {
  rest = fields text;
  whole = refl;
  gives = (YieldsList-from_str_split 44 text (lit< tt) is more sign).runs;
}

module _ {fs front : List (List ℕ)} {s : Split ℕ} (came : Came fs front s) (t : Split ℕ) where
  pub came-some : (x : Bor (List ℕ)) → steps s (Some x) t → Came fs (front ++ x.now ∷ []) t
  came-some x k =
      let next = next-some s t came.rest x came.gives k in
      record {
        rest = next.0;
        whole = came.whole ∙ ap (λ z. front ++ z) next.1 ∙ sym (append_assoc front (x.now ∷ []) next.0);
        gives = next.2;
      }

  pub came-none : steps s None t → fs ≡ front
  came-none k = came.whole ∙ ap (λ z. front ++ z) (next-none s t came.rest came.gives k) ∙ append-nil front

-- ---- the number of a field

module _ (s : List ℕ) where
  pub in-class : (u : Number) → IsValue s u → IsInRange u → (c : Class s) → (is_number_by c ≡ true)
      × (value_by c ≡ Some u)
  in-class u is range (no_number n) = absurd (n (value_is_number s u is))
  in-class u is range (out_of_range n) = absurd (not_both s (u, is, range) n)
  in-class u is range (not_whole v value inside n) = (refl, ap Some ((has_one_value s).one v u value is))
  in-class u is range (whole v w value inside n) = (refl, ap Some ((has_one_value s).one v u value is))

  out-class : IsNumberOutOfRange s → (c : Class s) → (is_number_by c ≡ true) × (value_by c ≡ None)
  out-class o (no_number n) = absurd (n (value_is_number s _ o.1))
  out-class o (out_of_range n) = (refl, refl)
  out-class o (not_whole v value inside n) = absurd (not_both s (v, value, inside) o)
  out-class o (whole v w value inside n) = absurd (not_both s (v, value, inside) o)

  pub no-class : ¬ SpellsNumber s → (c : Class s) → is_number_by c ≡ false
  no-class none (no_number n) = refl
  no-class none (out_of_range o) = absurd (none (value_is_number s _ o.1))
  no-class none (not_whole v value inside n) = absurd (none (value_is_number s v value))
  no-class none (whole v w value inside n) = absurd (none (value_is_number s v value))

  -- what reading the field answers
  abbrev answer : Result (Option ℤ) QueryFault
  answer = if is_number s then Ok (if is_edge s then Some (edge s) else None) else Err BadBox

  units-answer : (u : Number) → IsNormal u → (r : Option ℤ) → IfSome r (IsFixed u)
      → (IsSome r ↔ ((n : ℤ) × IsFixed u n)) → r ≡ (if is_fixed u then Some (units_of u) else None)
  units-answer u normal (Some n) value fixed =
      rw (test-decides u normal (Some n) fixed) (ap Some (units-only u n (test-decides u normal (Some n) fixed) value))
  units-answer u normal None value fixed = rw (test-decides u normal None fixed) refl

  pub answer-read : (u : Number) → IsValue s u → IsInRange u → (r : Option ℤ) → IfSome r (IsFixed u)
      → (IsSome r ↔ ((n : ℤ) × IsFixed u n)) → Ok r ≡ answer
  answer-read u is range r value fixed =
      let said = in-class u is range (class s) in
      rw (said.0, said.1) (ap Ok (units-answer u is.normal r value fixed))

  pub answer-out : IsNumberOutOfRange s → Ok None ≡ answer
  answer-out o =
      let said = out-class o (class s) in
      rw (said.0, said.1)

  pub answer-none : ¬ SpellsNumber s → Err BadBox ≡ answer
  answer-none none = rw (no-class)

  -- what an answer says of the field
  by-number : (b : Bool) (o e : Option ℤ) → is_number s ≡ b → Ok o ≡ (if b then Ok e else Err BadBox)
      → (is_number s ≡ true) × (o ≡ e)
  by-number true o e t h = (t, cc)
  by-number false o e t h = cc

  answered : (o : Option ℤ) → Ok o ≡ answer → (is_number s ≡ true) × (o ≡ (if is_edge s then Some (edge s) else None))
  answered o h = by-number _ o _ refl h

-- ---- the box of four fields

-- what four edges that were read come to
abbrev pub by_edges : Option ℤ → Option ℤ → Option ℤ → Option ℤ → Result Box QueryFault
by_edges None p q r = Err BoxRange
by_edges (Some a) None q r = Err BoxRange
by_edges (Some a) (Some b) None r = Err BoxRange
by_edges (Some a) (Some b) (Some c) None = Err BoxRange
by_edges (Some a) (Some b) (Some c) (Some d) =
    let box : Box = record { min_x = a; min_y = b; max_x = c; max_y = d } in
    if is_empty box then Err EmptyBox else Ok box

module _ (s a b c d : List ℕ) (four : fields s ≡ a ∷ b ∷ c ∷ d ∷ []) where
  module _ (na : is_number a ≡ true) (nb : is_number b ≡ true) (nc : is_number c ≡ true) (nd : is_number d ≡ true) where
    by-tests : (i j k l : Bool) → is_edge a ≡ i → is_edge b ≡ j → is_edge c ≡ k → is_edge d ≡ l
        → box_text s ≡ by_edges (if i then Some (edge a) else None) (if j then Some (edge b) else None)
        (if k then Some (edge c) else None) (if l then Some (edge d) else None)
    by-tests x j k l ea eb ec ed = grind (arith, nat_tests)

  pub read-edges : (o p q r : Option ℤ) → Ok o ≡ answer a → Ok p ≡ answer b → Ok q ≡ answer c → Ok r ≡ answer d
      → box_text s ≡ by_edges o p q r
  read-edges o p q r ho hp hq hr =
      let ta = answered a o ho in
      let tb = answered b p hp in
      let tc = answered c q hq in
      let td = answered d r hr in
      rw (ta.1, tb.1, tc.1, td.1)
      (by-tests ta.0 tb.0 tc.0 td.0 _ _ _ _ refl refl refl refl)
