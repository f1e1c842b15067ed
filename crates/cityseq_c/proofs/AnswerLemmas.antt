-- What an answer says of a text: its judgement, its tally, and worked rows.
use Rattle.cityseq_c.proofs.Common.{Answer, Complete, End, IsJudged, IsUnread, List, Option, Rules, Some, sym, ℕ, ◌∙◌, ◌≡◌, arith, IsTalliedOf, IsTally, IsUnhindered, Judged, None, Outcome, Puts, Tallies, CReport, [], ap, capped, class_count, codes, cond, ending, get_or, get_or-replicate, is_some, kept, last_or, length, lent, map, never_fails, no_tally, option_map, shown_range, refl, replicate, same_number_lists, slot_count, stream_of, subst, true, ◌++◌, ◌+◌, ◌<◌, ◌^◌, ◌∷◌, ◌≢◌, IsRecordOf, Line, Reason, Tree, bits, chars, ended_line, false, filter, good_from, is_feature, is_number, is_utf8, raw, spots_from, tree_of, verdict}
use Rattle.cj_stream.specs.Parts.{capped_end, moved_end, headed, wider, IsCut, JoinsTallies}
use Rattle.cityseq_c.specs.Joined.{ended_by, outcome_by, IsAnswerOf}
use Rattle.cj_decimal.specs.Meaning.Number.{Number as Decimal}
use Rattle.cj_stream.specs.TallySink.{last_shown, IsTallyOf, TalliesRun, Tally as Tallied}
use Rattle.cj_stream.proofs.PartsLemmas.{front-good, header-valid, kept-first}
use Rattle.cityseq_c.specs.Tally.{AreShown, HasCounts, zeros}
use Rattle.cityseq_c.specs.declared.tally.Tally.{Tally}
use lib.Utf8.{encode}
use Rattle.cj_decimal.specs.Meaning.Reading.{digits_front, digits_rest, begins, is_empty, begins_digit, body, is_int, is_frac, frac_digits, after_frac, exp_digits, is_whole_digits, is_exp, exp_value}
use Rattle.cj_decimal.proofs.Classes.{class}
use Rattle.cj_decimal.proofs.Grammar.{spells_test}
use Rattle.cj_spans.specs.declared.reason.Reason.TheVariants.{Syntax}
use Rattle.cj_spans.specs.Meaning.Text.{text, code_points_after, first_code_point, first_width}
use Rattle.cj_geometry.specs.Meaning.ObjectTypes.{object_types}
use Rattle.cj_feature.specs.Examples.{plain_header}
use Rattle.cj_feature.proofs.Valid.{plain_feature}
use Rattle.cj_stream.specs.GoingRows.{going}
use Rattle.cj_stream.specs.Rows.{small_feature, small_header, wide_rules}
use Rattle.cj_stream.specs.Meaning.Verdict.{Blank, Invalid, Kept}
use Rattle.cj_stream.specs.Verdict.{verdict_at}
use Rattle.cj_stream.proofs.RowLemmas.{same-verdict, comma_second, feature_third, feature_tree, header_first, header_tree, open_line}
use Rattle.cj_stream.proofs.VerdictLemmas.{verdict-blank}
use Rattle.cj_stream.proofs.QueryRowLemmas.{one, zero as naught}
use Rattle.cj_stream.proofs.BoxTextLemmas.{no-class}
use Rattle.cityseq_c.specs.Rows.{AttributesRow, BetweenRow, BitRow, BlankRow, FaultRow, RecordRow, small_record}

-- ---- what an answer says of a text that was judged

-- an answer of a text has its end, and its outcome
pub ended-of : {rules : Rules} {text : List ℕ} {a : Answer} → (x : IsAnswerOf rules text a)
    → ended_by a ≡ Some x.outcome.ended
ended-of {a = a} x =
    grind arith

pub outcome-of : {rules : Rules} {text : List ℕ} {a : Answer} → (x : IsAnswerOf rules text a) → (e : End)
    → e ≡ x.outcome.ended → outcome_by a e ≡ x.outcome
outcome-of x e is = grind arith

pub same-end : (e f : End) (o : Option End) → o ≡ Some e → o ≡ Some f → e ≡ f
same-end e f o h k = cc (sym h ∙ k)

-- an answer of a text whose status is 0 is complete, and no other one is
pub complete-of : {rules : Rules} {text : List ℕ} {a : Answer} → (x : IsAnswerOf rules text a) → a.status ≡ 0
    → Complete ≡ x.outcome.ended
complete-of {a = a} x zero = grind (arith, ended-of)

pub not-complete : {rules : Rules} {text : List ℕ} {a : Answer} → (x : IsAnswerOf rules text a) → ¬ (a.status ≡ 0)
    → ¬ (x.outcome.ended ≡ Complete)
not-complete x other is = grind arith

pub judged-unread : (e : End) → IsJudged e → IsUnread e
judged-unread e judged = grind arith

-- an end that is seen as one of the stream is still one of a text that was judged
pub judged-moved : (n : ℕ) (e : End) → IsJudged e → IsJudged (capped_end (moved_end n e))
judged-moved n e judged = grind arith

-- ---- what a sink has tallied of a text

-- without a hindrance the tally is that of all that is kept
pub tallied : (rules : Rules) (text : List ℕ) (o : Outcome) (start t : Tallied) (old new : List CReport)
    → Judged (never_fails Tallies) (stream_of rules text) o (lent start old) (lent t new) → start ≡ no_tally
    → (shown : Tally) → IsTally t shown → (start ≡ no_tally → Puts (never_fails Tallies) (stream_of rules text) Complete
    start t → TalliesRun (stream_of rules text) Complete t)
    → IsUnhindered o.ended → IsTalliedOf rules text shown
tallied rules text o start t old new j fresh shown same law free =
    record { tallied = t; all = law fresh (j.took free); shown = same }

-- ---- two parts

last-some : {A : Type 0} (x : A) (xs : List A) → last_or (Some x) xs ≡ None → ⊥
last-some x [] h = absurd (cc h)
last-some x (y ∷ xs) h = last-some y xs h

-- the header of a complete part is kept, so its transform is known
module _ (rules : Rules) (h a : List ℕ) (cut : IsCut h a) (done : ending rules (headed h a) ≡ Complete) where
  scale-known : (s : Option (List Decimal))
      → option_map (map Some) s ≡ last_shown (codes "scale") (kept rules (headed h a)) → is_some s ≡ true
  scale-known s is = grind (arith, last-some, front-good, kept-first, header-valid)

-- a tally with the transform of another
abbrev with_transform : Tally → Tally → Tally
with_transform shown header =
    record shown { transformed = header.transformed; scale = header.scale; translate = header.translate }

-- what two parts were tallied as, by sinks that have the counts of each
module _ (rules : Rules) (h a b : List ℕ) (first second joined header : Tally) (s t u : Tallied) where
  pub tallied-then : IsCut h a → ending rules (headed h a) ≡ Complete → (first.transformed ≢ 0 → header ≡ first)
      → ((x : Tallied) → IsTally x first → HasCounts x s) → ((x : Tallied) → IsTally x second → HasCounts x t)
      → JoinsTallies s t u → IsTally u joined
      → ((x y both : Tallied) → IsTallyOf (kept rules (headed h a)) x → IsTallyOf (kept rules (headed h b)) y
      → JoinsTallies x y both → IsTallyOf (kept rules (headed h (a ++ b))) both)
      → IsTalliedOf rules (headed h a) first → IsTalliedOf rules (headed h b) second
      → IsTalliedOf rules (headed h (a ++ b)) (with_transform joined header)
  tallied-then cut done own counts more joins shown law x y =
      let p = counts x.tallied x.shown in
      let q = more y.tallied y.shown in
      let both : Tallied = record u { scale = x.tallied.scale; translate = x.tallied.translate } in
      let some : is_some x.tallied.scale ≡ true = scale-known rules h a cut done x.tallied.scale x.all.scale in
      let one : first.transformed ≡ 1 = x.shown.transformed ∙ ap (λ z. cond z 1 0) some in
      let same : header ≡ first = own (λ none. absurd (omega (arith, one, none))) in
      record {
        tallied = both;
        all = law x.tallied y.tallied both x.all y.all (record {
          features = joins.features
              ∙ (ap (λ n. capped (n + t.features)) p.features ∙ ap (λ n. capped (x.tallied.features + n)) q.features);
          types = λ n lt. joins.types n lt
              ∙ (ap (λ z. capped (get_or z n 0 + get_or t.types n 0)) p.types
              ∙ ap (λ z. capped (get_or x.tallied.types n 0 + get_or z n 0)) q.types);
          lods = λ n lt. joins.lods n lt
              ∙ (ap (λ z. capped (get_or z n 0 + get_or t.lods n 0)) p.lods
              ∙ ap (λ z. capped (get_or x.tallied.lods n 0 + get_or z n 0)) q.lods);
          ranges = λ axis lt. joins.ranges axis lt
              ∙ (ap (λ z. wider z (get_or t.ranges axis None)) (p.ranges axis lt)
              ∙ ap (λ z. wider (get_or x.tallied.ranges axis None) z) (q.ranges axis lt));
          scale = refl;
          translate = refl;
        });
        shown = record {
          features = shown.features;
          types = shown.types;
          lods = shown.lods;
          ranges = shown.ranges;
          transformed = ap (λ z. z.transformed) same ∙ x.shown.transformed;
          scale = subst (λ z. AreShown x.tallied.scale z.scale) (sym same) x.shown.scale;
          translate = subst (λ z. AreShown x.tallied.translate z.translate) (sym same) x.shown.translate;
        };
      }

-- ---- zeros

-- counts that were added to zeros
added-to-zeros : (size : ℕ) (before counts after : List ℕ) → before ≡ replicate size 0 → length counts ≡ size
    → length after ≡ size → ((n : ℕ) → n < size → get_or counts n 0 < 2 ^ 64)
    → ((n : ℕ) → n < size → get_or after n 0 ≡ capped (get_or before n 0 + get_or counts n 0)) → after ≡ counts
added-to-zeros size before counts after none long same few adds =
    grind (arith, same_number_lists, get_or-replicate)

-- a tally has as many counts as there are types and classes, and each is below 2^64
pub record IsOfSize (t : Tallied) : Type 0 where
  pub features : t.features < 2 ^ 64
  pub types : length t.types ≡ slot_count
  pub lods : length t.lods ≡ class_count
  pub few_types : (n : ℕ) → n < slot_count → get_or t.types n 0 < 2 ^ 64
  pub few_lods : (n : ℕ) → n < class_count → get_or t.lods n 0 < 2 ^ 64

-- what zeros and a tally were joined as, by sinks that have the counts of each
module _ (first second joined : Tally) (x s t u : Tallied) (none : first ≡ zeros) (of_x : IsTally x second)
    (counts : (y : Tallied) → IsTally y first → HasCounts y s)
    (more : (y : Tallied) → IsTally y second → HasCounts y t)
    (joins : JoinsTallies s t u) (shown : IsTally u joined) (size : IsOfSize t) (long : IsOfSize u) where
  nothing : IsTally no_tally first
  nothing = grind arith

  of_first : HasCounts no_tally s
  of_first = counts no_tally nothing

  of_next : HasCounts x t
  of_next = more x of_x

  same-features : joined.features ≡ second.features
  same-features =
      omega (arith, shown.features, joins.features, of_first.features, of_next.features, of_x.features, size.features)

  same-types : joined.types ≡ second.types
  same-types =
      shown.types ∙ (added-to-zeros slot_count s.types t.types u.types of_first.types size.types long.types
      size.few_types joins.types ∙ (of_next.types ∙ sym of_x.types))

  same-lods : joined.lods ≡ second.lods
  same-lods =
      shown.lods ∙ (added-to-zeros class_count s.lods t.lods u.lods of_first.lods size.lods long.lods size.few_lods
      (λ n lt. joins.lods n (omega (arith, lt))) ∙ (of_next.lods ∙ sym of_x.lods))

  axis : (k : ℕ) → k < 3 → shown_range (get_or u.ranges k None) ≡ shown_range (get_or x.ranges k None)
  axis k lt =
      ap shown_range (joins.ranges k lt ∙ (ap (λ z. wider z (get_or t.ranges k None))
      (of_first.ranges k lt ∙ get_or-replicate 3 k None None lt) ∙ of_next.ranges k lt))

  pub zeros-then : with_transform joined second ≡ second
  zeros-then = grind (arith, same-features, same-types, same-lods, axis)

-- ---- worked rows: where features stand, and the record of one

-- the lines of the features that are kept of some lines, and where these begin
abbrev places_of : Rules → List Line → List (ℕ × ℕ)
places_of rules ls =
    map (λ x. (x.line, x.begin)) (filter (λ x. is_feature x.item) (spots_from rules [] (good_from rules [] ls)))

-- a line without a feature, and then one
module _ (rules : Rules) (h l f : Line) (first : verdict rules [] h.content ≡ Kept)
    (third : verdict rules (h ∷ l ∷ []) f.content ≡ Kept) where
  after-blank : verdict rules (h ∷ []) l.content ≡ Blank
      → places_of rules (h ∷ l ∷ f ∷ []) ≡ (3, length (raw l ++ [])) ∷ []
  unfolding verdict_at
  after-blank blank = grind (arith, blank)

  after-invalid : (place : ℕ) (reason : Reason) → rules.options.keep_going ≡ true
      → verdict rules (h ∷ []) l.content ≡ Invalid place reason
      → places_of rules (h ∷ l ∷ f ∷ []) ≡ (3, length (raw l ++ [])) ∷ []
  unfolding verdict_at
  after-invalid place reason on bad = grind arith

pub blank : BlankRow
blank = grind (arith, after-blank, open_line, header_first, feature_third, verdict-blank)

pub between : BetweenRow
between =
    after-invalid (going wide_rules) (ended_line small_header) (ended_line _) (open_line small_feature)
    (same-verdict wide_rules 1 _ small_header ∙ header_first _)
    (same-verdict wide_rules 3 _ small_feature ∙ feature_third)
    26 Syntax refl (same-verdict wide_rules 2 _ _ ∙ comma_second _)

pub bit : BitRow
unfolding bits
bit = (refl, refl)

-- ---- attributes

pub attributes : AttributesRow
unfolding text code_points_after first_code_point first_width chars
attributes = grind arith

-- ---- faults of a request

no-text : is_number [] ≡ false
unfolding digits_front digits_rest begins is_empty begins_digit body is_int is_frac frac_digits after_frac exp_digits
    is_whole_digits is_exp exp_value
no-text = grind (arith, no-class, spells_test, class)

pub fault : FaultRow
unfolding object_types is_utf8 chars encode
fault = (
  refl,
  refl,
  refl,
  refl,
  rw (naught.0, one.0, no-text) refl,
  rw (naught.0, one.0) refl,
  rw (naught.1, one.1) refl,
  rw naught.1 refl,
)

-- the record of the small feature, with its tree
no-range : (axis : ℕ) → axis < 3
    → get_or (shown_range None ∷ shown_range None ∷ shown_range None ∷ []) axis (shown_range None) ≡ shown_range None
no-range axis low = grind arith

shown : (t header : Tree) → t ≡ plain_feature.tree → header ≡ plain_header
    → IsRecordOf (record {
      line = 2;
      begin = 0;
      item = record { line = ended_line small_feature; tree = t; header = Some header };
    }) small_record
unfolding text code_points_after first_code_point first_width chars object_types bits
shown t header e f = rw (e, f) (record {
  line = refl;
  begin = refl;
  long = refl;
  id = record { id = _; member = refl; begin = refl; long = refl };
  attributes = (refl, refl);
  objects = refl;
  geometries = refl;
  types = refl;
  lods = refl;
  ranges = λ axis low. record { range = None; ends = refl; shown = no-range axis low };
})

other : (t header : Tree) → t ≡ plain_feature.tree
    → ¬ IsRecordOf (record {
      line = 2;
      begin = 0;
      item = record { line = ended_line small_feature; tree = t; header = Some header };
    })
    (record small_record { objects = 2 })
unfolding text code_points_after first_code_point first_width chars
other t header e h = grind arith

pub record_of : RecordRow
record_of = (
  shown (tree_of 64 small_feature) (tree_of 64 small_header) feature_tree header_tree,
  other (tree_of 64 small_feature) (tree_of 64 small_header) feature_tree,
)
