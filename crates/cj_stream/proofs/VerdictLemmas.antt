-- Verdicts on lines, and the results of lines one after another.
use Rattle.cj_stream.proofs.Common.{Blank, Bool, Finding, Invalid, IsLeast, IsUtf8, IsUtf8-from_ascii, IsUtf8-from_is_utf8, Kept, LeftOut, LineTooLong, List, None, NotUtf8, Rules, Some, Tree, [], ap, arith, by_least, false, findings, is_blank_byte, is_kept_if_valid, is_utf8, is_utf8-from_IsUtf8, least, length, list_all, nat_lt, nat_tests, refl, refusal_of, suc, text_verdict, tree_verdict, true, utf8_valid_len, verdict_at, zero, ℕ, ◌&&◌, ◌<◌, ◌∙◌, ◌∷◌, ◌≡◌, ◌≤◌, Err, IsValidUpTo, Json, Judgement, Ok, broken, is_spelled, judged_nest, judged_size, judged_tree, nest, size, spelled, sunk, take_all, LimitPair, cond, drop, inl, inr, is_text, take, tree_nest, tree_size, ◌++◌, ◌-◌, Complete, End, Line, Option, Reason, Refused, Ruling, append-nil, append_assoc, first_end, flat_map-append, good_from, is_some, kept_from, kept_of, length-append, lines_before, map, map-append, moved_end, moved_report, option_map, refusal_from, reported_from, reported_of, ruling_after, rulings, sym, ◌+◌}
use Rattle.std.proofs.Common.{ltb, IsAscii}
use Rattle.cj_spans.proofs.Judgements.{judgement}
use Rattle.cj_spans.proofs.Findings.{least_only, fold_least}
use Rattle.cj_stream.proofs.LineLemmas.{not_true}
use Rattle.cj_spans.specs.declared.fault.LineFault.TheVariants.{Syntax, TooDeep}
use Rattle.cj_spans.specs.declared.reason.Reason.TheVariants.{Syntax as SyntaxReason, TooDeep as TooDeepReason}
use Rattle.cj_spans.specs.Answers.{IsReservedAnswerOf}
use Rattle.cj_spans.specs.declared.token.Kind.{Kind}
use Rattle.cj_spans.specs.Meaning.Spelling.{IsScalar, IsMinus, IsInt}
use Rattle.cj_spans.specs.Meaning.Json.{byte, Value, atom, empty_array, full_array, empty_object, full_object, padded}

-- ---- the verdict case by case, and the refusals and kept lines of lines that follow one another

blank-byte : (b : ℕ) → is_blank_byte b ≡ true → b < 128
blank-byte b h = grind (arith, nat_tests)

pub and-both : (x y : Bool) → x && y ≡ true → (x ≡ true) × (y ≡ true)
and-both true true h = (refl, refl)
and-both true false h = cc
and-both false y h = cc

-- bytes that are all blank are ASCII
blank-ascii : (c : List ℕ) → list_all is_blank_byte c ≡ true → IsAscii c
blank-ascii [] h i = omega arith
blank-ascii (b ∷ c) h zero = blank-byte b (and-both _ _ h).0
blank-ascii (b ∷ c) h (suc i) = blank-ascii c (and-both _ _ h).1 i

pub verdict-long : (rules : Rules) (n : ℕ) (header : Tree) (c : List ℕ) → rules.limits.line < length c
    → verdict_at rules n header c ≡ Invalid rules.limits.line LineTooLong
unfolding verdict_at
verdict-long rules n header c h = let e : ltb rules.limits.line (length c) ≡ true = grind (arith, nat_tests) in rw e

pub verdict-bytes : (rules : Rules) (n : ℕ) (header : Tree) (c : List ℕ) → length c ≤ rules.limits.line → ¬ IsUtf8 c
    → verdict_at rules n header c ≡ Invalid (utf8_valid_len c) NotUtf8
unfolding verdict_at
verdict-bytes rules n header c h not_text =
    let e : ltb rules.limits.line (length c) ≡ false = grind (arith, nat_tests) in
    rw (e, not_true (is_utf8 c) (λ y. not_text (IsUtf8-from_is_utf8 c y)))

pub verdict-blank : (rules : Rules) (n : ℕ) (header : Tree) (c : List ℕ) → length c ≤ rules.limits.line
    → nat_lt 1 n && list_all is_blank_byte c ≡ true → verdict_at rules n header c ≡ Blank
unfolding verdict_at
verdict-blank rules n header c h blank =
    let e : ltb rules.limits.line (length c) ≡ false = grind (arith, nat_tests) in
    let only = (and-both _ _ blank).1 in
    rw (e, is_utf8-from_IsUtf8 c (IsUtf8-from_ascii c (blank-ascii c only)), blank)

pub verdict-json : (rules : Rules) (n : ℕ) (header : Tree) (c : List ℕ) → length c ≤ rules.limits.line → IsUtf8 c
    → nat_lt 1 n && list_all is_blank_byte c ≡ false
    → verdict_at rules n header c ≡ text_verdict rules n header (judgement c rules.limits.depth)
unfolding verdict_at
verdict-json rules n header c h is_text not_blank =
    let e : ltb rules.limits.line (length c) ≡ false = grind (arith, nat_tests) in
    rw (e, is_utf8-from_IsUtf8 c is_text, not_blank)

-- the first line has no header before it
pub verdict-first : (rules : Rules) (x y : Tree) (c : List ℕ) → verdict_at rules 1 x c ≡ verdict_at rules 1 y c
unfolding verdict_at
verdict-first rules x y c = grind arith

-- ---- the verdict by findings

least-is : (fs : List Finding) (f : Finding) → IsLeast fs (Some f) → least None fs ≡ Some f
least-is fs f h = least_only _ _ _ _ (λ g. (λ x. x, λ x. x)) h (fold_least None fs)

pub tree-refused : (rules : Rules) (n : ℕ) (header t : Tree) (f : Finding)
    → IsLeast (findings rules n header t) (Some f) → tree_verdict rules n header t ≡ Invalid f.place f.reason
tree-refused rules n header t f h =
    ap (by_least (is_kept_if_valid rules n header t)) (least-is _ f h)

pub tree-valid : (rules : Rules) (n : ℕ) (header t : Tree) → findings rules n header t ≡ []
    → is_kept_if_valid rules n header t ≡ true → tree_verdict rules n header t ≡ Kept
tree-valid rules n header t h keep = ap (λ fs. by_least (is_kept_if_valid rules n header t) (least None fs)) h
    ∙ rw keep

pub tree-unasked : (rules : Rules) (n : ℕ) (header t : Tree) → findings rules n header t ≡ []
    → is_kept_if_valid rules n header t ≡ false → tree_verdict rules n header t ≡ LeftOut
tree-unasked rules n header t h leave = ap (λ fs. by_least (is_kept_if_valid rules n header t) (least None fs)) h
    ∙ rw leave

-- a first line that is not refused is kept
pub valid-first : (rules : Rules) (x : Tree) (c : List ℕ) → refusal_of rules 1 (verdict_at rules 1 x c) ≡ None
    → verdict_at rules 1 x c ≡ Kept
unfolding verdict_at
valid-first rules x c h = grind arith

-- ---- what a scan's answer says of the judgement on a line

-- a scan that answers Ok has found the tree
pub ok-tree : {b : List ℕ} {d : ℕ} (j : Judgement b d) (x : Unit {0}) (t : Tree) → ((u : Tree) → Json b u → u ≡ t)
    → IsReservedAnswerOf j (Ok x)
    → (judged_tree j ≡ t) × (judged_size j ≡ size t) × (judged_nest j ≡ nest t)
ok-tree (spelled u json shallow) x t only h = (only u json, ap size (only u json), ap nest (only u json))
ok-tree other x t only e = cc

-- and the verdict goes by that tree
pub ok-verdict : {b : List ℕ} {d : ℕ} (rules : Rules) (n : ℕ) (header : Tree) (j : Judgement b d) (x : Unit {0})
    → IsReservedAnswerOf j (Ok x)
    → text_verdict rules n header j ≡ tree_verdict rules n header (judged_tree j)
ok-verdict rules n header (spelled u json shallow) x h = refl
ok-verdict rules n header (broken i s k) x e = cc
ok-verdict rules n header (sunk i s) x e = cc

-- and each fault the place
module _ {b : List ℕ} {d : ℕ} (rules : Rules) (n : ℕ) (header : Tree) where
  pub syntax-refused : (j : Judgement b d) (i : ℕ) → IsReservedAnswerOf j (Err (Syntax i))
      → text_verdict rules n header j ≡ Invalid i SyntaxReason
  syntax-refused (spelled u json shallow) i e = cc
  syntax-refused (broken k s m) i e = cc
  syntax-refused (sunk k s) i e = cc

  pub deep-refused : (j : Judgement b d) (i : ℕ) → IsReservedAnswerOf j (Err (TooDeep i))
      → text_verdict rules n header j ≡ Invalid i TooDeepReason
  deep-refused (spelled u json shallow) i e = cc
  deep-refused (broken k s m) i e = cc
  deep-refused (sunk k s) i e = cc

-- bytes that are UTF-8 up to a place are not UTF-8
pub not_text : (b : List ℕ) (i : ℕ) → IsValidUpTo b i → IsUtf8 b → ⊥
not_text b i h text = h.longest (length b) h.short (rw (take_all (length b) b (omega arith)) text)

-- a scan that finds such a fault has found no tree
pub syntax-unspelled : {b : List ℕ} {d : ℕ} (j : Judgement b d) (i : ℕ) → IsReservedAnswerOf j (Err (Syntax i))
    → is_spelled j ≡ false
syntax-unspelled (spelled u json shallow) i e = cc
syntax-unspelled (broken k s m) i e = refl
syntax-unspelled (sunk k s) i e = refl

pub deep-unspelled : {b : List ℕ} {d : ℕ} (j : Judgement b d) (i : ℕ) → IsReservedAnswerOf j (Err (TooDeep i))
    → is_spelled j ≡ false
deep-unspelled (spelled u json shallow) i e = cc
deep-unspelled (broken k s m) i e = refl
deep-unspelled (sunk k s) i e = refl

-- ---- a blank content is no JSON text

-- bytes that are all blank
abbrev AllBlank : List ℕ → Type 0
AllBlank s = list_all is_blank_byte s ≡ true

blank-drop : (i : ℕ) (s : List ℕ) → AllBlank s → AllBlank (drop i s)
blank-drop zero s h = h
blank-drop (suc i) [] h = h
blank-drop (suc i) (b ∷ s) h = blank-drop i s (and-both _ _ h).1

blank-take : (i : ℕ) (s : List ℕ) → AllBlank s → AllBlank (take i s)
blank-take zero s h = refl
blank-take (suc i) [] h = refl
blank-take (suc i) (b ∷ s) h =
    let k = and-both (is_blank_byte b) _ h in
    let rest : list_all is_blank_byte (take i s) ≡ true = blank-take i s k.1 in
    rw (k.0, rest) refl

-- no byte of them is another one
not-at : (s : List ℕ) (i x : ℕ) → AllBlank s → byte s i ≡ suc x → is_blank_byte (suc x) ≡ false → ⊥
not-at [] i x h e k = cc
not-at (b ∷ s) zero x h e k =
    grind (arith, nat_tests, and-both)
not-at (b ∷ s) (suc i) x h e k = not-at s i x (and-both _ _ h).1 e k

digit-not : (b : ℕ) → 48 ≤ b → is_blank_byte b ≡ true → ⊥
digit-not b low h =
    grind (arith, nat_tests)

blank-int : (s t : List ℕ) → IsInt s → AllBlank (s ++ t) → ⊥
blank-int [] t n h = n
blank-int (b ∷ s) t (inl n) h =
    digit-not b (omega arith) (and-both _ _ h).0
blank-int (b ∷ s) t (inr n) h =
    digit-not b (omega arith) (and-both _ _ h).0

blank-minus : (m s t : List ℕ) → IsMinus m → IsInt s → AllBlank (m ++ (s ++ t)) → ⊥
blank-minus m s t (inl e) n h = blank-int s t n (rw e at h)
blank-minus m s t (inr e) n h = let k = rw e at h in cc

-- no scalar is spelled by them
blank-scalar : (k : Kind) (s : List ℕ) → IsScalar k s → AllBlank s → ⊥
blank-scalar x s e h = grind (arith, nat_tests, blank-minus)

blank-value : (b : List ℕ) (i j : ℕ) (t : Tree) → AllBlank b → Value b i j t → ⊥
blank-value b i j t h (atom k from to a) =
    blank-scalar k _ a.spelled (blank-take (to - from) (drop from b) (blank-drop from b h))
blank-value b i j t h (empty_array from k e w f) = not-at b _ _ h e refl
blank-value b i j t h (full_array from k l ts u e w p f) = not-at b _ _ h e refl
blank-value b i j t h (empty_object from k e w f) = not-at b _ _ h e refl
blank-value b i j t h (full_object from k l m ms n u e w p q f) = not-at b _ _ h e refl

blank-json : (b : List ℕ) (t : Tree) → AllBlank b → Json b t → ⊥
blank-json b t h (padded i j k l u w v x) = blank-value b j k u h v

blank-judged : {b : List ℕ} {d : ℕ} (j : Judgement b d) → AllBlank b → (judged_size j ≡ 0) × (judged_nest j ≡ 0)
blank-judged {b} (spelled t json shallow) h = absurd (blank-json b t h json)
blank-judged (broken i s n) h = (refl, refl)
blank-judged (sunk i s) h = (refl, refl)

-- a blank content has no tree
pub blank-tree : (limits : LimitPair) (c : List ℕ) → list_all is_blank_byte c ≡ true → (tree_size limits c ≡ 0)
    × (tree_nest limits c ≡ 0)
blank-tree limits c h = go (is_text limits c)
  where
    none : (judged_size (judgement c limits.depth) ≡ 0) × (judged_nest (judgement c limits.depth) ≡ 0)
    none = blank-judged _ h

    go : (x : Bool) → (cond x (judged_size (judgement c limits.depth)) 0 ≡ 0)
        × (cond x (judged_nest (judgement c limits.depth)) 0 ≡ 0)
    go true = none
    go false = (refl, refl)

-- ---- the results of lines, one after another: of some lines and then others, and of the lines before an end

-- ---- of any rulings

pub end-append : (xs ys : List Ruling)
    → first_end (xs ++ ys) ≡ cond (is_some (first_end xs)) (first_end xs) (first_end ys)
end-append [] ys = refl
end-append (x ∷ xs) ys = grind (arith, end-append xs ys)

before-append : (xs ys : List Ruling)
    → lines_before (xs ++ ys) ≡ lines_before xs ++ cond (is_some (first_end xs)) [] (lines_before ys)
before-append [] ys = refl
before-append (x ∷ xs) ys = grind (arith, before-append xs ys)

pub kept_of-append : (xs ys : List Ruling) → kept_of (xs ++ ys) ≡ kept_of xs ++ kept_of ys
kept_of-append [] ys = refl
kept_of-append (x ∷ xs) ys = grind (arith, kept_of-append xs ys)

-- neither of two is there where the first of them is not
pub refusal-step : (first rest : Option End) → cond (is_some first) first rest ≡ None → (first ≡ None) × (rest ≡ None)
refusal-step None rest e = (refl, e)
refusal-step (Some x) rest e = cc

-- the same so many lines later
abbrev pub moved : ℕ → Ruling → Ruling
moved k r = record r { end = option_map (moved_end k) r.end; reports = map (moved_report k) r.reports }

pub end-moved : (k : ℕ) (rs : List Ruling) → first_end (map (moved k) rs) ≡ option_map (moved_end k) (first_end rs)
end-moved k [] = refl
end-moved k (r ∷ rs) = grind (arith, end-moved k rs)

pub before-moved : (k : ℕ) (rs : List Ruling) → lines_before (map (moved k) rs) ≡ lines_before rs
before-moved k [] = refl
before-moved k (r ∷ rs) = grind (arith, before-moved k rs)

pub kept_of-moved : (k : ℕ) (rs : List Ruling) → kept_of (map (moved k) rs) ≡ kept_of rs
kept_of-moved k [] = refl
kept_of-moved k (r ∷ rs) = grind (arith, kept_of-moved k rs)

pub reported_of-moved : (k : ℕ) (rs : List Ruling)
    → reported_of (map (moved k) rs) ≡ map (moved_report k) (reported_of rs)
reported_of-moved k [] = refl
reported_of-moved k (r ∷ rs) =
    rw (reported_of-moved k rs) (sym (map-append (moved_report k) r.reports (reported_of rs)))

module _ (rules : Rules) where
  -- ---- of some lines, and then others

  pub rulings-append : (before xs ys : List Line)
      → rulings rules before (xs ++ ys) ≡ rulings rules before xs ++ rulings rules (before ++ xs) ys
  rulings-append before [] ys = rw (append-nil before)
  rulings-append before (x ∷ xs) ys =
      rw (rulings-append (before ++ x ∷ []) xs ys, append_assoc before (x ∷ []) xs) refl

  pub rulings-next : (xs : List Line) (l : Line)
      → rulings rules [] (xs ++ l ∷ []) ≡ rulings rules [] xs ++ ruling_after rules xs l ∷ []
  rulings-next xs l = rulings-append _ _ _

  pub kept-append : (before xs ys : List Line)
      → kept_from rules before (xs ++ ys) ≡ kept_from rules before xs ++ kept_from rules (before ++ xs) ys
  kept-append before xs ys = rw (rulings-append) (kept_of-append (rulings rules before xs) _)

  pub reported-append : (before xs ys : List Line)
      → reported_from rules before (xs ++ ys) ≡ reported_from rules before xs ++ reported_from rules (before ++ xs) ys
  reported-append before xs ys =
      rw (rulings-append) (flat_map-append (λ r. r.reports) (rulings rules before xs) _)

  module _ (before xs ys : List Line) where
    pub refusal-both : refusal_from rules before (xs ++ ys)
        ≡ cond (is_some (refusal_from rules before xs)) (refusal_from rules before xs)
        (refusal_from rules (before ++ xs) ys)
    refusal-both = rw (rulings-append) (end-append (rulings rules before xs) _)

    -- none of the first is the end
    pub refusal-append : refusal_from rules before xs ≡ None
        → refusal_from rules before (xs ++ ys) ≡ refusal_from rules (before ++ xs) ys
    refusal-append h = refusal-both ∙ rw h

    -- one of them is
    pub refusal-stays : (e : End) → refusal_from rules before xs ≡ Some e
        → refusal_from rules before (xs ++ ys) ≡ Some e
    refusal-stays e h = refusal-both ∙ rw h

    pub good-stays : (e : End) → refusal_from rules before xs ≡ Some e
        → good_from rules before (xs ++ ys) ≡ good_from rules before xs
    good-stays e h =
        rw (rulings-append, before-append, h)
        (append-nil (good_from rules before xs))

  -- ---- the lines before an end

  pub good-all : (before ls : List Line) → refusal_from rules before ls ≡ None → good_from rules before ls ≡ ls
  good-all before [] h = refl
  good-all before (l ∷ ls) h = grind (arith, good-all (before ++ l ∷ []) ls)

  pub good-append : (before xs ys : List Line) → refusal_from rules before xs ≡ None
      → good_from rules before (xs ++ ys) ≡ xs ++ good_from rules (before ++ xs) ys
  good-append before xs ys h =
      rw (rulings-append, before-append, h, good-all)

  -- they are a prefix
  pub good-take : (before ls : List Line) → take (length (good_from rules before ls)) ls ≡ good_from rules before ls
  good-take before [] = refl
  good-take before (l ∷ ls) = grind (arith, good-take (before ++ l ∷ []) ls)

  -- of which none is an end
  pub good-none : (before ls : List Line) → refusal_from rules before (good_from rules before ls) ≡ None
  good-none before [] = refl
  good-none before (l ∷ ls) = grind (arith, good-none (before ++ l ∷ []) ls)

  -- the line after them is the refused one
  pub refusal-good : (before : List Line) (m place : ℕ) (reason : Reason) (ls : List Line)
      → refusal_from rules before ls ≡ Some (Refused m place reason)
      → m ≡ length before + 1 + length (good_from rules before ls)
  refusal-good before m place reason [] h = absurd (cc h)
  refusal-good before m place reason (l ∷ ls) h =
      grind (arith, refusal-good (before ++ l ∷ []) m place reason ls, length-append before (l ∷ []))

  -- a refusal is no completion
  pub refusal-kind : (before ls : List Line) → refusal_from rules before ls ≡ Some Complete → ⊥
  refusal-kind before [] h = cc h
  refusal-kind before (l ∷ ls) h = grind (arith, refusal-kind (before ++ l ∷ []) ls)
