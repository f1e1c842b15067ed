-- Each line has exactly one verdict, and each stream one list of judged lines.
use Rattle.cj_stream.proofs.Common.{Blank, Bool, Finding, Invalid, IsVerdict, Json, Judgement, Kept, Line, LineTooLong, List, None, NotUtf8, Option, Rules, Some, Syntax, TooDeep, Tree, Verdict, [], ap, arith, array, broken, by_least, cond, false, findings, is_blank, is_blank_line, is_kept_if_valid, is_utf8, judged_at, judged_behind, judged_later, judged_list, least, length, nat_tests, nest, no_items, not, read_tree, refl, spelled, spelled_tree, sunk, sym, text_verdict, tree_verdict, true, utf8_valid_len, verdict_at, ℕ, ◌&&◌, ◌<◌, ◌∙◌, ◌∷◌, ◌≡◌, ◌≤◌, ◌+◌}
use Rattle.std.proofs.Common.{eqb, ltb, ltb-true}
use Rattle.cj_spans.specs.Meaning.Prefix.{SyntaxAt, DeepAt, NowhereDeep}
use Rattle.cj_spans.proofs.Judgements.{judgement, say_same}
use Rattle.cj_stream.specs.Meaning.Judged.{JudgedLine, IsJudged, AreLater, AreJudged, no_lines, no_header, headed}
use Rattle.cj_stream.specs.Meaning.Verdict.{faults, is_selected, IsRead, Spells, too_long, not_utf8, blank_line, too_deep, no_json, faulty, leaves_out, keeps}
use Rattle.cj_stream.proofs.VerdictLemmas.{verdict-long}

-- a number, and the header that is before a line with it: none before the first line
pub record Fits (rules : Rules) (n : ℕ) (x : Tree) (header : Option Tree) : Type 0 where
  pub faults : (t : Tree) → findings rules n x t ≡ faults rules header t
  pub selected : (t : Tree) → is_kept_if_valid rules n x t ≡ is_selected rules header t
  pub blank : (c : List ℕ) → is_blank_line n c ≡ is_blank header c

pub first-fits : (rules : Rules) (x : Tree) → Fits rules 1 x None
first-fits rules x = record { faults = λ t. refl; selected = λ t. refl; blank = λ c. refl }

pub later-fits : (rules : Rules) (n : ℕ) (x : Tree) → 1 < n → Fits rules n x (Some x)
later-fits rules n x later =
    let is_later : ltb 1 n ≡ true = grind (arith, nat_tests) in
    let is_other : eqb n 1 ≡ false = grind (arith, nat_tests) in
    record { faults = λ t. rw is_other; selected = λ t. rw is_other; blank = λ c. rw is_later }

not-long : (n m : ℕ) → n ≤ m → ltb m n ≡ false
not-long n m h = grind (arith, nat_tests)

short-from : (n m : ℕ) → ltb m n ≡ false → n ≤ m
short-from n m h = grind (arith, nat_tests)

is-long : (n m : ℕ) → m < n → ltb m n ≡ true
is-long n m h = grind (arith, nat_tests)

module _ (rules : Rules) (n : ℕ) (x : Tree) (header : Option Tree) (fits : Fits rules n x header) (c : List ℕ) where
  -- ---- what is computed is a verdict

  by-least : (t : Tree) → Spells rules header c t → (keep : Bool) → is_selected rules header t ≡ keep
      → (o : Option Finding) → least None (faults rules header t) ≡ o
      → IsVerdict rules header c (Some t) (by_least keep o)
  by-least t spells true s None e = keeps t spells e s
  by-least t spells false s None e = leaves_out t spells e s
  by-least t spells keep s (Some f) e = faulty t f spells e

  tree-by : (t : Tree)
      → tree_verdict rules n x t ≡ by_least (is_selected rules header t) (least None (faults rules header t))
  tree-by t =
      ap (λ k. by_least k (least None (findings rules n x t))) (fits.selected t)
      ∙ ap (λ fs. by_least (is_selected rules header t) (least None fs)) (fits.faults t)

  text-is : IsRead rules header c → (j : Judgement c rules.limits.depth)
      → IsVerdict rules header c (spelled_tree j) (text_verdict rules n x j)
  text-is read (spelled t json shallow) =
      rw (tree-by t)
      (by-least t (record { read = read; json = json; shallow = shallow }) _ refl
      _ refl)
  text-is read (broken i s h) = no_json i read h s
  text-is read (sunk i s) = too_deep i read s

  pub verdict-is : IsVerdict rules header c (read_tree rules header c) (verdict_at rules n x c)
  unfolding verdict_at
  verdict-is =
      go (ltb rules.limits.line (length c)) refl (is_utf8 c) refl (is_blank header c) refl (is_blank_line n c)
      (fits.blank c)
    where
      go : (long : Bool) → ltb rules.limits.line (length c) ≡ long → (text : Bool) → is_utf8 c ≡ text
          → (blanks : Bool) → is_blank header c ≡ blanks → (same : Bool) → same ≡ is_blank header c
          → IsVerdict rules header c
          (cond ((not long && text) && not blanks) (spelled_tree (judgement c rules.limits.depth)) None)
          (cond long (Invalid rules.limits.line LineTooLong)
          (cond (not text) (Invalid (utf8_valid_len c) NotUtf8)
          (cond same Blank (text_verdict rules n x (judgement c rules.limits.depth)))))
      go true l text u blanks b same e = too_long (ltb-true _ _ l)
      go false l false u blanks b same e = not_utf8 (short-from _ _ l) u
      go false l true u true b same e = rw (e, b) (blank_line (short-from _ _ l) u b)
      go false l true u false b same e =
          rw (e, b) (text-is (record { short = short-from _ _ l; text = u; not_blank = b })
          _)

  -- ---- and no other is

  -- what a content spells is what its judgement says
  judged-spelled : (t : Tree) → Json c t → nest t ≤ rules.limits.depth → (j : Judgement c rules.limits.depth)
      → (spelled_tree j ≡ Some t) × (text_verdict rules n x j ≡ tree_verdict rules n x t)
  judged-spelled t json shallow (spelled u k m) =
      let e = say_same (spelled u k m) (spelled t json shallow) in
      (ap Some e, ap (tree_verdict rules n x) e)
  judged-spelled t json shallow (broken i s m) = absurd (say_same (broken i s m) (spelled t json shallow))
  judged-spelled t json shallow (sunk i s) = absurd (say_same (sunk i s) (spelled t json shallow))

  judged-broken : (i : ℕ) → SyntaxAt c i → NowhereDeep c rules.limits.depth → (j : Judgement c rules.limits.depth)
      → (spelled_tree j ≡ None) × (text_verdict rules n x j ≡ Invalid i Syntax)
  judged-broken i s h (spelled u k m) = absurd (say_same (spelled u k m) (broken i s h))
  judged-broken i s h (broken k r m) = (refl, ap (λ z. Invalid z Syntax) (say_same (broken k r m) (broken i s h)))
  judged-broken i s h (sunk k r) = absurd (say_same (sunk k r) (broken i s h))

  judged-sunk : (i : ℕ) → DeepAt c rules.limits.depth i → (j : Judgement c rules.limits.depth)
      → (spelled_tree j ≡ None) × (text_verdict rules n x j ≡ Invalid i TooDeep)
  judged-sunk i s (spelled u k m) = absurd (say_same (spelled u k m) (sunk i s))
  judged-sunk i s (broken k r m) = absurd (say_same (broken k r m) (sunk i s))
  judged-sunk i s (sunk k r) = (refl, ap (λ z. Invalid z TooDeep) (say_same (sunk k r) (sunk i s)))

  read-tree : IsRead rules header c → read_tree rules header c ≡ spelled_tree (judgement c rules.limits.depth)
  read-tree read = rw (not-long (length c) rules.limits.line read.short, read.text, read.not_blank)

  read-verdict : IsRead rules header c
      → verdict_at rules n x c ≡ text_verdict rules n x (judgement c rules.limits.depth)
  unfolding verdict_at
  read-verdict read =
      rw (not-long (length c) rules.limits.line read.short, read.text, fits.blank c ∙ read.not_blank) refl

  bytes-verdict : length c ≤ rules.limits.line → is_utf8 c ≡ false
      → verdict_at rules n x c ≡ Invalid (utf8_valid_len c) NotUtf8
  unfolding verdict_at
  bytes-verdict h u = rw (not-long, u)

  blank-verdict : length c ≤ rules.limits.line → is_utf8 c ≡ true → is_blank header c ≡ true
      → verdict_at rules n x c ≡ Blank
  unfolding verdict_at
  blank-verdict h u b =
      rw (not-long, u, fits.blank c ∙ b)

  -- the tree and the verdict of a line are those that are computed
  pub record IsThat (t : Option Tree) (v : Verdict) : Type 0 where
    pub tree : t ≡ read_tree rules header c
    pub verdict : v ≡ verdict_at rules n x c

  spells-that : (t : Tree) → Spells rules header c t → (v : Verdict) → tree_verdict rules n x t ≡ v
      → IsThat (Some t) v
  spells-that t spells v e =
      let j = judged-spelled t spells.json spells.shallow _ in
      record {
        tree = sym (read-tree spells.read ∙ j.0);
        verdict = sym (read-verdict spells.read ∙ j.1 ∙ e);
      }

  pub only-verdict : (t : Option Tree) (v : Verdict) → IsVerdict rules header c t v → IsThat t v
  only-verdict t v (too_long h) =
      record { tree = rw (is-long); verdict = sym (verdict-long _ n x c h) }
  only-verdict t v (not_utf8 h u) =
      record { tree = rw (not-long, u); verdict = sym (bytes-verdict h u) }
  only-verdict t v (blank_line h u b) =
      record { tree = rw (not-long, u, b); verdict = sym (blank-verdict h u b) }
  only-verdict t v (too_deep i read s) =
      let j = judged-sunk i s _ in
      record { tree = sym (read-tree read ∙ j.0); verdict = sym (read-verdict read ∙ j.1) }
  only-verdict t v (no_json i read h s) =
      let j = judged-broken i s h _ in
      record { tree = sym (read-tree read ∙ j.0); verdict = sym (read-verdict read ∙ j.1) }
  only-verdict t v (faulty u f spells e) =
      spells-that u spells _ (tree-by u ∙ ap (by_least (is_selected rules header u)) e)
  only-verdict t v (leaves_out u spells e s) =
      spells-that u spells _ (tree-by u ∙ ap (by_least (is_selected rules header u)) e ∙ ap (λ k. by_least k None) s)
  only-verdict t v (keeps u spells e s) =
      spells-that u spells _ (tree-by u ∙ ap (by_least (is_selected rules header u)) e ∙ ap (λ k. by_least k None) s)

-- ---- verdicts by themselves

-- a kept line has a tree
pub kept-tree : (rules : Rules) (header : Option Tree) (c : List ℕ) (t : Option Tree) (v : Verdict)
    → IsVerdict rules header c t v → v ≡ Kept → (u : Tree) × (t ≡ Some u) × Spells rules header c u
kept-tree rules header c t v (keeps u spells k s) e = (u, refl, spells)
kept-tree rules header c t v other e = cc

-- ---- the lists

-- the tree beside which the first line is judged, which it does not depend on
abbrev pub no_tree : Tree
no_tree = array 0 0 no_items

module _ (rules : Rules) where
  line-only : (n : ℕ) (x : Tree) (header : Option Tree) → Fits rules n x header → (l : Line) (j : JudgedLine)
      → IsJudged rules n header l j
      → j ≡ record {
        number = n;
        line = l;
        header = header;
        tree = read_tree rules header l.content;
        verdict = verdict_at rules n x l.content;
      }
  line-only n x header fits l j is =
      let that = only-verdict _ n x _ fits _ _ _ is.verdict in
      λ i. record {
        number = is.number i;
        line = is.line i;
        header = is.header i;
        tree = that.tree i;
        verdict = that.verdict i;
      }

  pub later-are : (h : Tree) (n : ℕ) → 1 < n → (ls : List Line) → AreLater rules h n ls (judged_later rules h n ls)
  later-are h n later [] = tt
  later-are h n later (l ∷ ls) = (
    record {
      number = refl;
      line = refl;
      header = refl;
      verdict = verdict-is _ n h _ (later-fits rules n h later) _;
    },
    later-are h (n + 1) (omega arith) ls,
  )

  pub later-only : (h : Tree) (n : ℕ) → 1 < n → (ls : List Line) (js : List JudgedLine) → AreLater rules h n ls js
      → js ≡ judged_later rules h n ls
  later-only h n later [] [] a = refl
  later-only h n later [] (j ∷ js) a = absurd a
  later-only h n later (l ∷ ls) [] a = absurd a
  later-only h n later (l ∷ ls) (j ∷ js) a =
      ap (λ z. z ∷ js) (line-only n h _ (later-fits _ n h later) l j a.0)
      ∙ ap (λ z. judged_at rules n (Some h) l ∷ z) (later-only h (n + 1) (omega arith) ls js a.1)

  pub first-is : (l : Line) → IsJudged rules 1 None l (judged_at rules 1 None l)
  first-is l = record {
    number = refl;
    line = refl;
    header = refl;
    verdict = verdict-is _ 1 _ _ (first-fits rules no_tree) _;
  }

  pub list-are : (ls : List Line) → AreJudged rules ls (judged_list rules ls)
  list-are [] = no_lines
  list-are (l ∷ ls) = go (judged_at rules 1 None l).verdict (judged_at rules 1 None l).tree refl refl
    where
      go : (v : Verdict) (t : Option Tree) → (judged_at rules 1 None l).verdict ≡ v
          → (judged_at rules 1 None l).tree ≡ t
          → AreJudged rules (l ∷ ls) (judged_at rules 1 None l ∷ judged_behind rules v t ls)
      go Kept (Some h) e f = headed l ls _ _ h (first-is l) e f (later-are h 2 (omega arith) _)
      go Kept None e f =
          let k = kept-tree _ _ _ _ _ (first-is l).verdict e in
          let clash = sym f ∙ k.1 in cc
      go other t e f = no_header l ls _ (first-is l) (λ k. cc (k))

  behind-none : (v : Verdict) (t : Option Tree) (ls : List Line) → (v ≡ Kept → ⊥) → judged_behind rules v t ls ≡ []
  behind-none Kept t ls h = absurd (h refl)
  behind-none other t ls h = refl

  pub behind-some : (v : Verdict) (t : Option Tree) (h : Tree) (ls : List Line) → v ≡ Kept → t ≡ Some h
      → judged_behind rules v t ls ≡ judged_later rules h 2 ls
  behind-some v t h ls e f = ap (λ z. judged_behind rules z t ls) e ∙ ap (λ z. judged_behind rules Kept z ls) f

  pub list-only : (ls : List Line) (js : List JudgedLine) → AreJudged rules ls js → js ≡ judged_list rules ls
  list-only ls js no_lines = refl
  list-only ls js (no_header l ks j is not_kept) =
      let first = judged_at rules 1 None l in
      let e = line-only 1 _ _ (first-fits _ _) l j is in
      ap (λ z. z ∷ []) e ∙ ap (λ z. judged_at rules 1 None l ∷ z)
      (sym (behind-none first.verdict first.tree ks (λ k. not_kept (ap (λ (q : JudgedLine). q.verdict) e ∙ k))))
  list-only ls js (headed l ks j more h is kept tree later) =
      let first = judged_at rules 1 None l in
      let e = line-only 1 _ _ (first-fits _ _) l j is in
      ap (λ z. z ∷ more) e
      ∙ ap (λ z. judged_at rules 1 None l ∷ z) (later-only h 2 (omega arith) _ _ later
      ∙ sym (behind-some first.verdict first.tree h ks (ap (λ (q : JudgedLine). q.verdict) (sym e) ∙ kept)
      (ap (λ (q : JudgedLine). q.tree) (sym e) ∙ tree)))
