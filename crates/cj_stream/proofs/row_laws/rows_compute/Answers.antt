use Rattle.cj_stream.proofs.Common.{chars, code_points_after, first_code_point, first_width, is_utf8, refl, text, utf8_valid_len, verdict_at}
use lib.Utf8.{encode}
use Rattle.cj_spans.proofs.Judgements.{judgement, over, by_step, by_depth, sinks, at_end, by_end, text_of, no_end, ends_at}
use Rattle.cj_stream.proofs.RowLemmas.{whole, blank, order, bad, long, euro, cut_after, comma_after, short_after, deep_after, open_after}
use Rattle.cj_stream.proofs.row_laws.rows_compute.Goals as goal

pub returns : goal.returns
unfolding verdict_at is_utf8 chars encode utf8_valid_len judgement over by_step by_depth sinks at_end by_end text_of
    no_end ends_at text code_points_after first_code_point first_width
returns c = record {
  empty = ((refl, refl), (refl, refl));
  whole = whole;
  blank = blank;
  order = order;
  bad = bad;
  long = long;
  text = (euro, (refl, refl), cut_after);
  syntax = ((refl, refl), (refl, refl), comma_after, short_after);
  deep = ((refl, refl), (refl, refl), deep_after, open_after);
}
