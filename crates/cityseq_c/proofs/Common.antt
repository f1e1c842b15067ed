-- What most proofs cite of the standard library and of the definitions.
pub use Rattle.cityseq_c.specs.Begins.{AreBehind, IsAlong, begin_of}
pub use Rattle.cityseq_c.specs.Called.{Copied, IsFull, IsTalliedOf, IsWritten}
pub use Rattle.cityseq_c.specs.FaultPlace.{has_edge}
pub use Rattle.cityseq_c.specs.Features.{HasSpan, IsRecordOf, Passes, Place, Spot, attributes_in, is_among, main_object, past, past_from, place_of, seek, seek_from, spot_after, spots, spots_from}
unfoldable pub use Rattle.cityseq_c.specs.Features.{bits}
pub use Rattle.cityseq_c.specs.Judged.{IsJudged, Judged, lent, run_over}
pub use Rattle.cityseq_c.specs.Query.{DeclinesCall}
pub use Rattle.cityseq_c.specs.ReportSlice.{Holds, finder_text}
pub use Rattle.cityseq_c.specs.Request.{AreCut, IsAsked, IsFit, edges_by, fault_of, items, needed_limits, text_asked, types_or_fault}
pub use Rattle.cityseq_c.specs.Tally.{IsTally, shown_range}
pub use Rattle.cityseq_c.specs.Words.{name_in, reason_in, reason_with, type_words}
pub use Rattle.cityseq_c.specs.declared.answer.Answer.{Answer}
pub use Rattle.cityseq_c.specs.declared.features.listed.Listed.{Listed}
pub use Rattle.cityseq_c.specs.declared.features.record_of.FeatureRecord.{FeatureRecord}
pub use Rattle.cityseq_c.specs.declared.report_slice.Noted.{Noted}
pub use Rattle.cityseq_c.specs.declared.report_slice.CReport.{CReport}
pub use Rattle.cityseq_c.specs.declared.request.NotJudged.{NotJudged}
pub use Rattle.cityseq_c.specs.declared.request.NotJudged.TheVariants.{Fault, Memory}
pub use Rattle.cityseq_c.specs.declared.request.Request.{Request}
pub use Rattle.cj_budget.specs.declared.limits.Peaks.{Peaks}
pub use Rattle.cj_feature.specs.Meaning.CityObject.{object_geometries, type_row}
unfoldable pub use Rattle.cj_feature.specs.View.{feature_header, feature_line, feature_tree}
unfoldable pub use Rattle.cj_feature.specs.Walks.{objects_left, objects_line}
pub use Rattle.cj_spans.specs.Meaning.Parts.{first_named, member_if, text_of}
pub use Rattle.cj_spans.specs.Meaning.Reason.{code_of}
pub use Rattle.cj_spans.specs.Meaning.Tree.{Tree, start_of}
pub use Rattle.cj_spans.specs.Places.{spelling_of}
unfoldable pub use Rattle.cj_spans.specs.View.{line_of, tree}
pub use Rattle.cj_spans.specs.declared.reason.Reason.{Reason}
pub use Rattle.cj_stream.specs.BoxText.{box_text, is_edge, is_number, is_number_by}
pub use Rattle.cj_stream.specs.Cut.{IsUnread, PutsPieces, in_pieces}
pub use Rattle.cj_stream.specs.Engine.{Counts, Delivers, Faults, rules_of}
pub use Rattle.cj_stream.specs.Item.{feature_item, tree_of}
pub use Rattle.cj_stream.specs.Items.{Item, is_feature, raw_item}
pub use Rattle.cj_stream.specs.Lines.{NoLf, begun, closed, joined, last_line, later_of, whole}
pub use Rattle.cj_stream.specs.Meaning.Bound.{IsBounded, greatest, of_first}
pub use Rattle.cj_stream.specs.Meaning.Criteria.{Box, ChosenTypes, Criteria, objects_of, there_is}
pub use Rattle.cj_stream.specs.Meaning.Headline.{IsUnhindered}
pub use Rattle.cj_stream.specs.Meaning.Lines.{Line, ended_line, lines, raw}
pub use Rattle.cj_stream.specs.Meaning.Outputs.{Took}
pub use Rattle.cj_stream.specs.Meaning.Rules.{Rules}
unfoldable pub use Rattle.cj_stream.specs.Query.{criteria}
pub use Rattle.cj_stream.specs.Run.{Account, CountsAll, Ends, Puts, outcome_of}
pub use Rattle.cj_stream.specs.Sink.{HasRisen, SinkContract, never_fails}
pub use Rattle.cj_stream.specs.Tallied.{IsRange, capped, class_by, class_count, class_of, how_often, lod_classes, row_number, slot_count, type_numbers}
pub use Rattle.cj_stream.specs.TallySink.{RisesBy, Tallies, no_tally}
pub use Rattle.cj_stream.specs.Verdict.{ending, good_from, is_kept, item_after, kept, kept_first, kept_from, output, output_first, refusal_of, stream_of, up_to, verdict}
pub use Rattle.cj_stream.specs.declared.ending.End.{End}
pub use Rattle.cj_stream.specs.declared.ending.End.TheVariants.{Complete, WriteFault}
pub use Rattle.cj_stream.specs.declared.query.fault.QueryFault.{QueryFault}
pub use Rattle.cj_stream.specs.declared.running.Outcome.{Outcome}
pub use Rattle.memchr.specs.Find.{IsFirstByte, IsLastByte, is_byte}
pub use Rattle.std.proofs.Common.{Bool, Bor, Err, IfErr, IfOk, IfSome, IsUtf8, List, MatchResult, None, Ok, OnErr, OnOk, Option, Result, Some, [], add-one, ap, append-nil, append_assoc, arith, bytes_eq, codes, cond, drop, drop-drop, drop-set-lt, eqb, false, filter, flat_map, get_or, if◌then◌else◌, inl, inr, is_ok, is_some, length, length-append, length-set, length-take, lit<, lit≤, ltb, ltb-false, ltb-true, map, max, min, nat_le, not, option_and_then, option_map, pow_mono, refl, replicate, rules, slice_get, slice_set, subst, suc, sum, sym, take, take-append-drop, take_all, true, zero, ℕ, ℤ, ◌&&◌, ◌++◌, ◌+◌, ◌-◌, ◌<◌, ◌^◌, ◌∙◌, ◌∷◌, ◌≡◌, ◌≢◌, ◌≤◌, ◌⊎◌}
pub use Rattle.std.proofs.Math.Nat.{min-eq_left, mod-le}
pub use Rattle.std.proofs.Math.Seq.{take-nil}
pub use Rattle.std.proofs.lemmas.Bool.{cases_lt, eqb-false}
pub use Rattle.std.proofs.lemmas.Bool.Decides.{nat_tests}
pub use Rattle.std.proofs.lemmas.Grind.{flat_map-append, pow_more, same_number_lists}
pub use Rattle.std.proofs.lemmas.Iterator.Splits.{YieldsList-from_slice_split}
pub use Rattle.std.proofs.lemmas.List.{drop_all, get_or-replicate, take-append-le, take_more_set}
pub use Rattle.std.proofs.lemmas.Result.{IfErr-weaker, err_from_is_err_and}
pub use Rattle.std.specs.List.{AllZip, last_or, list_all, slice_split}
unfoldable pub use Rattle.std.specs.Str.{chars, is_utf8}
