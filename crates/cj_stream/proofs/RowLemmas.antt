-- Worked rows: the trees of their lines, the verdicts, and what comes of them.
use Rattle.cj_stream.proofs.Common.{Blank, Complete, Gives, IdNotFound, Invalid, IsUtf8, IsUtf8-from_is_utf8, Json, Judgement, Kept, Line, LineTooLong, List, MissingMember, NotUtf8, Reason, Refused, Rules, Some, Syntax, Token, TooDeep, Tree, [], ap, broken, by_least, chars, codes, ended_line, ending_of, false, flat_map, forest, goes_on, good_from, holds, is_blank_byte, is_kept_if_valid, is_utf8, judged_tree, kept_from, length, list_all, lit<, lit≤, nat_lt, nest, other_id, plain_header, raw, raw_item, refl, replicate, small_feature, small_header, spelled, subst, sunk, sym, take, text_verdict, tight_rules, tree_of, tree_verdict, true, utf8_valid_len, verdict, verdict_at, wide_rules, ℕ, ◌&&◌, ◌++◌, ◌∙◌, ◌∷◌, ◌≡◌, ◌≤◌, arith, nat_tests, reported_from}
use lib.Utf8.{encode}
use Rattle.cj_spans.specs.declared.step.Mode.TheVariants.{After}
use Rattle.cj_spans.specs.inner.Machine.{State, state, between, settle}
use Rattle.cj_spans.specs.Preorder.{spans_of}
use Rattle.cj_spans.proofs.Forests.{json_shown}
use Rattle.cj_spans.proofs.Judgements.{judgement, over, by_step, by_depth, sinks, at_end, by_end, text_of, no_end, ends_at, say_same, after, spells_end}
use Rattle.cj_spans.proofs.Lists.{spans_of-flatten}
use Rattle.cj_feature.proofs.Valid.{plain_feature, euro_feature as euro_tree, euro_feature-valid, plain_header-valid, plain_feature-valid, other_id-refused, feature-no_header, header-no_feature}
use Rattle.cj_stream.specs.Rows.{lost_feature, euro_feature, WholeRow, BlankRow, OrderRow, BadRow, LongRow}
use Rattle.cj_stream.specs.Usual.{everything, usual_options}
use Rattle.cj_stream.proofs.VerdictLemmas.{verdict-long, verdict-json, verdict-blank, tree-valid}
use Rattle.cj_stream.specs.LineRows.{TabRow, HeaderRow}
use Rattle.cj_stream.specs.GoingRows.{going, BetweenRow, FirstRow, LastRow}

-- ---- worked rows: the trees of their lines, the verdicts, and what comes of them

-- ---- trees

first : {A : Type 0} (x y : A) → x ∷ [] ≡ y ∷ [] → x ≡ y
first x y e = cc

-- a line whose run is known spells the tree that its tokens show
pub spelled-tree : (b : List ℕ) (s : State) (us : List Token) (p : ℕ) (t : Tree) → after b (length b) ≡ Some s
    → settle s ≡ Some (state (between After) [] us (length b) p) → forest b (spans_of us) ≡ t ∷ [] → Json b t
spelled-tree b s us p t h e f =
    let z = spells_end b s _ p h e in
    subst (Json b) (first _ t (sym (json_shown b _ z.json)
    ∙ ap (forest b) (sym (ap spans_of z.tokens ∙ spans_of-flatten 0 z.tree)) ∙ f)) z.json

-- so its judgement has that tree
module _ {b : List ℕ} {d : ℕ} (t : Tree) (json : Json b t) (shallow : nest t ≤ d) where
  judged : (j : Judgement b d) → judged_tree j ≡ t
  judged (spelled u k m) = say_same (spelled u k m) (spelled t json shallow)
  judged (broken i s m) = absurd (say_same (broken i s m) (spelled t json shallow))
  judged (sunk i s) = absurd (say_same (sunk i s) (spelled t json shallow))

  pub by-tree : (rules : Rules) (n : ℕ) (header : Tree) (j : Judgement b d)
      → text_verdict rules n header j ≡ tree_verdict rules n header t
  by-tree rules n header (spelled u k m) =
      ap (tree_verdict rules n header) (say_same (spelled u k m) (spelled t json shallow))
  by-tree rules n header (broken i s m) = absurd (say_same (broken i s m) (spelled t json shallow))
  by-tree rules n header (sunk i s) = absurd (say_same (sunk i s) (spelled t json shallow))

-- a line of these bytes is a text, and spells this tree, which is not deep
pub record IsLine (c : List ℕ) (t : Tree) : Type 0 where
  pub json : Json c t
  pub shallow : nest t ≤ 64
  pub is_text : IsUtf8 c

header_json : Json small_header plain_header
unfolding forest
header_json = spelled-tree small_header _ _ _ plain_header refl refl refl

pub header_line : IsLine small_header plain_header
unfolding is_utf8 chars encode
header_line = record { json = header_json; shallow = lit≤ tt; is_text = IsUtf8-from_is_utf8 small_header refl }

feature_json : Json small_feature plain_feature.tree
unfolding forest
feature_json = spelled-tree small_feature _ _ _ plain_feature.tree refl refl refl

pub feature_line : IsLine small_feature plain_feature.tree
unfolding is_utf8 chars encode
feature_line = record { json = feature_json; shallow = lit≤ tt; is_text = IsUtf8-from_is_utf8 small_feature refl }

euro_json : Json euro_feature euro_tree
unfolding forest
euro_json = spelled-tree euro_feature _ _ _ euro_tree refl refl refl

euro_line : IsLine euro_feature euro_tree
unfolding is_utf8 chars encode
euro_line = record { json = euro_json; shallow = lit≤ tt; is_text = IsUtf8-from_is_utf8 euro_feature refl }

lost_json : Json lost_feature other_id.tree
unfolding forest
lost_json = spelled-tree lost_feature _ _ _ other_id.tree refl refl refl

lost_line : IsLine lost_feature other_id.tree
unfolding is_utf8 chars encode
lost_line = record { json = lost_json; shallow = lit≤ tt; is_text = IsUtf8-from_is_utf8 lost_feature refl }

-- ---- verdicts

-- where nothing is asked, each feature satisfies it
pub holds-everything : (header t : Tree) → holds everything header t ≡ true
unfolding holds
holds-everything header t = refl

abbrev under : ℕ → Rules
under line = record { limits = record { line = line; depth = 64 }; criteria = everything; options = usual_options }

-- the verdict on a line of this tree
sound : (n : ℕ) (header : Tree) {c : List ℕ} {t : Tree} → IsLine c t → (most : ℕ) → length c ≤ most
    → nat_lt 1 n && list_all is_blank_byte c ≡ false
    → verdict_at (under most) n header c ≡ tree_verdict (under most) n header t
sound n header {c} {t} line most short full = verdict-json _ n _ c short line.is_text full
    ∙ by-tree t line.json line.shallow (under most) n header _

-- the trees of the header and of the feature
pub header_tree : tree_of 64 small_header ≡ plain_header
header_tree = judged _ header_line.json header_line.shallow (judgement small_header 64)

pub feature_tree : tree_of 64 small_feature ≡ plain_feature.tree
feature_tree = judged _ feature_line.json feature_line.shallow (judgement small_feature 64)

pub header_first : (t : Tree) → verdict_at wide_rules 1 t small_header ≡ Kept
header_first t = sound 1 t header_line _ (lit≤ tt) refl
    ∙ tree-valid wide_rules 1 t plain_header plain_header-valid refl

pub header_tight : (t : Tree) → verdict_at tight_rules 1 t small_header ≡ Kept
header_tight t = sound 1 t header_line _ (lit≤ tt) refl
    ∙ tree-valid tight_rules 1 t plain_header plain_header-valid refl

euro_second : verdict_at wide_rules 2 (tree_of 64 small_header) euro_feature ≡ Kept
euro_second =
    rw header_tree (sound 2 _ euro_line _ (lit≤ tt) refl
    ∙ tree-valid wide_rules 2 plain_header euro_tree euro_feature-valid (holds-everything plain_header euro_tree))

feature_second : verdict_at wide_rules 2 (tree_of 64 small_header) small_feature ≡ Kept
feature_second =
    rw header_tree (sound 2 _ feature_line _ (lit≤ tt) refl
    ∙ tree-valid wide_rules 2 plain_header plain_feature.tree plain_feature-valid
    (holds-everything plain_header plain_feature.tree))

pub feature_third : verdict_at wide_rules 3 (tree_of 64 small_header) small_feature ≡ Kept
feature_third =
    rw header_tree (sound 3 _ feature_line _ (lit≤ tt) refl
    ∙ tree-valid wide_rules 3 plain_header plain_feature.tree plain_feature-valid
    (holds-everything plain_header plain_feature.tree))

pub feature_first : (t : Tree) → verdict_at wide_rules 1 t small_feature ≡ Invalid 0 MissingMember
feature_first t = sound 1 t feature_line _ (lit≤ tt) refl
    ∙ ap (by_least true) feature-no_header

header_second : verdict_at wide_rules 2 (tree_of 64 small_header) small_header ≡ Invalid 0 MissingMember
header_second =
    rw header_tree (sound 2 _ header_line _ (lit≤ tt) refl
    ∙ ap (by_least (is_kept_if_valid wide_rules 2 plain_header plain_header)) header-no_feature)

lost_third : verdict_at wide_rules 3 (tree_of 64 small_header) lost_feature ≡ Invalid 31 IdNotFound
lost_third =
    rw header_tree (sound 3 _ lost_line _ (lit≤ tt) refl
    ∙ ap (by_least (is_kept_if_valid wide_rules 3 plain_header other_id.tree)) other_id-refused)

-- what is no JSON text is refused whatever the header
abbrev cut : List ℕ
cut = codes "{\"a\":\"" ++ 226 ∷ 130 ∷ codes "\"}"

abbrev comma : List ℕ
comma = codes "{\"type\":\"CityJSONFeature\",}"

module _ (header : Tree) where
  cut_second : verdict_at wide_rules 2 header cut ≡ Invalid 6 NotUtf8
  unfolding verdict_at is_utf8 chars encode utf8_valid_len
  cut_second = refl

  pub comma_second : verdict_at wide_rules 2 header comma ≡ Invalid 26 Syntax
  unfolding verdict_at is_utf8 chars encode judgement over by_step by_depth at_end by_end text_of no_end ends_at
  comma_second = refl

  short_second : verdict_at wide_rules 2 header (take 80 small_feature) ≡ Invalid 80 Syntax
  unfolding verdict_at is_utf8 chars encode judgement over by_step by_depth at_end by_end text_of no_end ends_at
  short_second = refl

  deep_second : verdict_at wide_rules 2 header (replicate 65 91) ≡ Invalid 64 TooDeep
  unfolding verdict_at is_utf8 chars encode judgement over by_step by_depth sinks at_end by_end text_of no_end ends_at
  deep_second = refl

  open_second : verdict_at wide_rules 2 header (replicate 64 91) ≡ Invalid 64 Syntax
  unfolding verdict_at is_utf8 chars encode judgement over by_step by_depth sinks at_end by_end text_of no_end ends_at
  open_second = refl

-- ---- lines

module _ (rules : Rules) where
  -- what is written of some lines
  abbrev pub written : List Line → List ℕ
  written ls = flat_map raw_item (kept_from rules [] (good_from rules [] ls))

  module _ (place : ℕ) (reason : Reason) where
    first-refused : (l : Line) (rest : List Line) → verdict rules [] l.content ≡ Invalid place reason
        → (ending_of rules (l ∷ rest) ≡ Refused 1 place reason) × (written (l ∷ rest) ≡ [])
    first-refused l rest bad = rw bad (refl, refl)

    module _ (h : Line) (valid : verdict rules [] h.content ≡ Kept) where
      pub second-refused : goes_on rules 2 ≡ false → (l : Line) (rest : List Line)
          → verdict rules (h ∷ []) l.content ≡ Invalid place reason
          → (ending_of rules (h ∷ l ∷ rest) ≡ Refused 2 place reason) × (written (h ∷ l ∷ rest) ≡ raw h ++ [])
      unfolding verdict_at
      second-refused on l rest bad = rw (valid, bad, on) (refl, rw valid)

      third-refused : goes_on rules 3 ≡ false → (f l : Line) (rest : List Line)
          → verdict rules (h ∷ []) f.content ≡ Kept → verdict rules (h ∷ f ∷ []) l.content ≡ Invalid place reason
          → (ending_of rules (h ∷ f ∷ l ∷ rest) ≡ Refused 3 place reason)
          × (written (h ∷ f ∷ l ∷ rest) ≡ raw h ++ (raw f ++ []))
      unfolding verdict_at
      third-refused on f l rest good bad = rw (valid, good, bad, on) (refl, rw (valid, good))

  module _ (h : Line) (valid : verdict rules [] h.content ≡ Kept) where
    pub two-good : (f : Line) → verdict rules (h ∷ []) f.content ≡ Kept → (ending_of rules (h ∷ f ∷ []) ≡ Complete)
        × (written (h ∷ f ∷ []) ≡ raw h ++ (raw f ++ []))
    two-good f good = rw (valid, good) (refl, rw (valid, good))

    pub blank-between : (b f : Line) → verdict rules (h ∷ []) b.content ≡ Blank
        → verdict rules (h ∷ b ∷ []) f.content ≡ Kept
        → (ending_of rules (h ∷ b ∷ f ∷ []) ≡ Complete) × (written (h ∷ b ∷ f ∷ []) ≡ raw h ++ (raw f ++ []))
    blank-between b f blank good = rw (valid, blank, good) (refl, rw (valid, blank, good))

-- ---- rows

pub whole : WholeRow
whole = two-good _ _ (header_first _) _ feature_second

pub blank : BlankRow
blank = blank-between _ _ (header_first _) _
    _ (verdict-blank _ 2 _ _ (lit≤ tt) refl)
    feature_third

pub order : OrderRow
order = (
  first-refused _ 0 _ _
      (record { content = small_header; lf = false } ∷ []) (feature_first _),
  second-refused _ 0 _ _ (header_first _) refl
      _ [] header_second,
)

pub bad : BadRow
bad = third-refused _ _ _ _ (header_first _) refl _
    _ (ended_line small_feature ∷ []) feature_second lost_third

-- the last line, after the small header
module _ (c : List ℕ) (place : ℕ) (reason : Reason) where
  pub after_header : verdict_at wide_rules 2 (tree_of 64 small_header) c ≡ Invalid place reason → (l : Line)
      → l.content ≡ c
      → (ending_of wide_rules (ended_line small_header ∷ l ∷ []) ≡ Refused 2 place reason)
      × (written wide_rules (ended_line small_header ∷ l ∷ []) ≡ small_header ++ 10 ∷ [])
  after_header refused l same =
      second-refused _ _ _ _ (header_first _) refl l [] (rw same refused)

abbrev pub open_line : List ℕ → Line
open_line c = record { content = c; lf = false }

module _ (l : Line) (same : l.content ≡ small_header ++ 32 ∷ []) where
  long_second : (ending_of tight_rules (ended_line small_header ∷ l ∷ []) ≡ Refused 2 116 LineTooLong)
      × (written tight_rules (ended_line small_header ∷ l ∷ []) ≡ small_header ++ 10 ∷ [])
  long_second =
      second-refused _ _ _ _ (header_tight _) refl l []
      (rw same (verdict-long _ 2 _ _ (lit< tt)))

  long_first : (ending_of tight_rules (l ∷ []) ≡ Refused 1 116 LineTooLong) × (written tight_rules (l ∷ []) ≡ [])
  long_first =
      first-refused _ _ _ l []
      (rw same (verdict-long _ 1 _ _ (lit< tt)))

pub long : LongRow
long = (
  long_first _ refl,
  long_first _ refl,
  long_second _ refl,
  long_second _ refl,
)

pub euro : Gives wide_rules (small_header ++ 10 ∷ euro_feature) Complete (small_header ++ 10 ∷ euro_feature)
euro = two-good _ _ (header_first _) _ euro_second

pub cut_after : Gives wide_rules (small_header ++ 10 ∷ cut) (Refused 2 6 NotUtf8) (small_header ++ 10 ∷ [])
cut_after = after_header _ 6 _ (cut_second _) _ refl

pub comma_after : Gives wide_rules (small_header ++ 10 ∷ comma) (Refused 2 26 Syntax) (small_header ++ 10 ∷ [])
comma_after = after_header _ _ _ (comma_second _) _ refl

pub short_after : Gives wide_rules (small_header ++ 10 ∷ take 80 small_feature) (Refused 2 80 Syntax)
    (small_header ++ 10 ∷ [])
short_after = after_header _ _ _ (short_second _) _ refl

pub deep_after : Gives wide_rules (small_header ++ 10 ∷ replicate 65 91) (Refused 2 64 TooDeep)
    (small_header ++ 10 ∷ [])
deep_after = after_header _ _ _ (deep_second _) _ refl

pub open_after : Gives wide_rules (small_header ++ 10 ∷ replicate 64 91) (Refused 2 64 Syntax) (small_header ++ 10 ∷ [])
open_after = after_header _ _ _ (open_second _) _ refl

-- ---- small texts with a blank line that is not empty, and with a header alone, computed

-- a form feed is no JSON text, whatever the header
feed_second : (header : Tree) → verdict_at wide_rules 2 header (12 ∷ []) ≡ Invalid 0 Syntax
unfolding verdict_at is_utf8 chars encode judgement over by_step by_depth at_end by_end text_of no_end ends_at
feed_second header = refl

-- a valid header alone
header-alone : (rules : Rules) (h : Line) → verdict rules [] h.content ≡ Kept → (ending_of rules (h ∷ []) ≡ Complete)
    × (written rules (h ∷ []) ≡ raw h ++ [])
header-alone rules h valid = rw valid (refl, rw valid)

tab_between : Gives wide_rules (small_header ++ 10 ∷ 9 ∷ 10 ∷ small_feature) Complete
    (small_header ++ 10 ∷ small_feature)
tab_between =
    blank-between _ _ (header_first _) _ _
    (verdict-blank _ 2 _ _ (lit≤ tt) refl) feature_third

tab_first : Gives wide_rules (9 ∷ []) (Refused 1 1 Syntax) []
unfolding verdict_at is_utf8 chars encode utf8_valid_len judgement over by_step by_depth sinks at_end by_end text_of
    no_end ends_at
tab_first = (refl, refl)

feed_after : Gives wide_rules (small_header ++ 10 ∷ 12 ∷ []) (Refused 2 0 Syntax) (small_header ++ 10 ∷ [])
feed_after = after_header _ 0 _ (feed_second _) _ refl

pub tab : TabRow
tab = (tab_between, tab_first, feed_after)

pub header : HeaderRow
header = (
  header-alone _ _ (header_first _),
  header-alone _ _ (header_first _),
)

-- ---- small streams in which reading goes on after invalid lines, computed

-- no verdict hangs on whether reading goes on
pub same-verdict : (rules : Rules) (n : ℕ) (header : Tree) (c : List ℕ)
    → verdict_at (going rules) n header c ≡ verdict_at rules n header c
unfolding verdict_at
same-verdict rules n header c =
    grind (arith, nat_tests)

module _ (rules : Rules) (on : rules.options.keep_going ≡ true) (place : ℕ) (reason : Reason) where
  -- a refused line between two good ones, and at the end
  between_good : (h l f : Line) → verdict rules [] h.content ≡ Kept → verdict rules (h ∷ []) l.content ≡ Invalid place
      reason
      → verdict rules (h ∷ l ∷ []) f.content ≡ Kept
      → ((ending_of rules (h ∷ l ∷ f ∷ []) ≡ Complete) × (written rules (h ∷ l ∷ f ∷ []) ≡ raw h ++ (raw f ++ [])))
      × (reported_from rules [] (good_from rules [] (h ∷ l ∷ f ∷ []))
      ≡ record { line = 2; place = place; reason = reason } ∷ [])
  unfolding verdict_at
  between_good h l f valid bad good = (
    (rw (valid, bad, on, good), rw (valid, bad, on, good) (rw (valid, bad, good))),
    rw (valid, bad, on, good) (rw (valid, bad, good)),
  )

  last : (h l : Line) → verdict rules [] h.content ≡ Kept → verdict rules (h ∷ []) l.content ≡ Invalid place reason
      → ((ending_of rules (h ∷ l ∷ []) ≡ Complete) × (written rules (h ∷ l ∷ []) ≡ raw h ++ []))
      × (reported_from rules [] (good_from rules [] (h ∷ l ∷ [])) ≡ record { line = 2; place = place; reason = reason }
      ∷ [])
  unfolding verdict_at
  last h l valid bad = (
    (rw (valid, bad, on), rw (valid, bad, on) (rw (valid, bad))),
    rw (valid, bad, on) (rw (valid, bad)),
  )

first_refused : (rules : Rules) (place : ℕ) (reason : Reason) (l : Line) (rest : List Line)
    → verdict rules [] l.content ≡ Invalid place reason
    → ((ending_of rules (l ∷ rest) ≡ Refused 1 place reason) × (written rules (l ∷ rest) ≡ []))
    × (reported_from rules [] (good_from rules [] (l ∷ rest)) ≡ [])
first_refused rules place reason l rest bad = ((rw bad, rw bad), rw bad)

pub row_between : BetweenRow
row_between =
    between_good _ refl _ _ _ _ _
    (same-verdict _ 1 _ _ ∙ header_first _) (same-verdict _ 2 _ _ ∙ comma_second _)
    (same-verdict _ 3 _ _ ∙ feature_third)

pub row_first : FirstRow
row_first = first_refused _ 0 _ _ (open_line small_header ∷ [])
    (same-verdict _ 1 _ _ ∙ feature_first _)

pub row_last : LastRow
row_last =
    last _ refl _ _ _ _
    (same-verdict _ 1 _ _ ∙ header_tight _)
    (verdict-long _ 2 _ _ (lit< tt))
