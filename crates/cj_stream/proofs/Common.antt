-- What most proofs cite of the standard library and of the definitions.
pub use Rattle.cj_budget.specs.Bounded.{IsWithin}
pub use Rattle.cj_budget.specs.Meaning.Limits.{LimitPair}
pub use Rattle.cj_budget.specs.declared.limits.Peaks.{Peaks}
pub use Rattle.cj_decimal.specs.Meaning.Number.{Number, is_fixed, scaled, units_of}
pub use Rattle.cj_decimal.specs.Word.{IsWordOf}
pub use Rattle.cj_feature.specs.Axes.{AreThere, number_on}
pub use Rattle.cj_feature.specs.Examples.{other_id, plain_header}
unfoldable pub use Rattle.cj_feature.specs.HeaderView.{header_tree}
pub use Rattle.cj_feature.specs.Meaning.CityObject.{object_geometries, type_row, vertex_of}
pub use Rattle.cj_feature.specs.Meaning.Feature.{feature, templates_of}
pub use Rattle.cj_feature.specs.Meaning.Transform.{transform_values, units_at}
unfoldable pub use Rattle.cj_feature.specs.View.{feature_header, feature_tree}
unfoldable pub use Rattle.cj_feature.specs.Walks.{coordinates_left, geometries_left, objects_left, vertices_left}
pub use Rattle.cj_geometry.specs.Lods.{given_to}
pub use Rattle.cj_geometry.specs.Meaning.Lod.{lod}
unfoldable pub use Rattle.cj_spans.specs.Forest.{forest}
pub use Rattle.cj_spans.specs.Meaning.Finding.{found_at, least}
pub use Rattle.cj_spans.specs.Meaning.Json.{Json}
pub use Rattle.cj_spans.specs.Meaning.Judgement.{Judgement, broken, judged_nest, judged_size, spelled, sunk}
pub use Rattle.cj_spans.specs.Meaning.Least.{IsLeast}
pub use Rattle.cj_spans.specs.Meaning.Parts.{are_same_texts, items_if, items_of, member_of, text_of}
unfoldable pub use Rattle.cj_spans.specs.Meaning.Text.{code_points_after, first_code_point, first_width, text}
pub use Rattle.cj_spans.specs.Meaning.Tree.{Tree, array, nest, no_items, size}
pub use Rattle.cj_spans.specs.Order.{compare, compare_texts}
unfoldable pub use Rattle.cj_spans.specs.View.{document, items_left, tree}
pub use Rattle.cj_spans.specs.declared.finding.Finding.{Finding}
pub use Rattle.cj_spans.specs.declared.reason.Reason.{Reason}
pub use Rattle.cj_spans.specs.declared.reason.Reason.TheVariants.{IdNotFound, LineTooLong, MissingMember, NoHeader, NotReached, NotUtf8, Syntax, TooDeep, UnknownObjectType}
pub use Rattle.cj_spans.specs.declared.token.Token.{Token}
pub use Rattle.cj_stream.specs.Adding.{parted, with_type_in}
pub use Rattle.cj_stream.specs.Bound.{IsBelow, IsExact, contents, exact_peaks, first_lines, held_length, is_readable, is_spelled, is_text, tree_nest, tree_size}
pub use Rattle.cj_stream.specs.BoxText.{fields, is_number}
pub use Rattle.cj_stream.specs.Carrying.{Carries, FinishesAll, SplitterState, TakesAll, TakesSome}
pub use Rattle.cj_stream.specs.CountSink.{is_header}
pub use Rattle.cj_stream.specs.Cut.{AppendsMore, Copies, EndsAt, Fed, IsUnread, PutsPieces, TookWhole, given_after, in_pieces}
pub use Rattle.cj_stream.specs.Ending.{answer_of, header_end, line_end}
pub use Rattle.cj_stream.specs.Engine.{Concludes, Counts, Delivers, EngineState, Faults, Going, StandsFor, IsEndAfter, end_of, given, held_by, limits_of, lines_of, peaks_of, rules_of, state}
pub use Rattle.cj_stream.specs.Extent.{IsSmall, alone, meets, range_of, widened}
pub use Rattle.cj_stream.specs.Feeding.{Feeds, IsFinished}
pub use Rattle.cj_stream.specs.Ids.{AreIndexed, AreRuns, Ascend, Key, compare_keys, key_at, key_of, keys_at, keys_of, piece, pieces}
pub use Rattle.cj_stream.specs.Item.{item_at, judged_tree, tree_of}
pub use Rattle.cj_stream.specs.Items.{Item, is_feature, raw_item}
pub use Rattle.cj_stream.specs.Judged.{item_by, item_of, judged_at, judged_behind, judged_later, judged_lines, judged_list, kept_in, read_tree, spelled_tree}
pub use Rattle.cj_stream.specs.Lines.{NoLf, begun, begun_after, begun_later, begun_with, closed, first_content, first_of, joined, last_line, later_of, onto_first, whole}
pub use Rattle.cj_stream.specs.Meaning.Bound.{HasPeaks, IsBounded, bytes_bound, greatest, of_first}
pub use Rattle.cj_stream.specs.Meaning.Criteria.{Box, ChosenTypes, Criteria, coordinate, coordinate_by, has_lod, has_type, is_in, is_of_type, is_one_of, needs_box, objects_of, some_at_least, some_at_most, there_is, vertices_of}
unfoldable pub use Rattle.cj_stream.specs.Meaning.Criteria.{holds}
pub use Rattle.cj_stream.specs.Meaning.Headline.{BeginsWell, Fate, Headline, IsUnhindered, RefusedMemory}
pub use Rattle.cj_stream.specs.Meaning.Lines.{Line, ended_line, in_front, lines, newline, raw}
pub use Rattle.cj_stream.specs.Meaning.Outputs.{Outputs, Took}
pub use Rattle.cj_stream.specs.Meaning.Rules.{Rules}
pub use Rattle.cj_stream.specs.Meaning.Verdict.{Blank, Invalid, IsVerdict, Kept, LeftOut, Verdict, is_blank, is_blank_byte}
pub use Rattle.cj_stream.specs.Output.{Channel, channel, flush_answer, output_failures, output_law, output_writer, outputs, writes_law}
pub use Rattle.cj_stream.specs.Parts.{AreComplete, IsCut, JoinsTallies, WidensFront, both_outcomes, capped_end, capped_outcome, greater_peaks, headed, moved_end, moved_line, moved_report, wider}
pub use Rattle.cj_stream.specs.Query.{box_of, failed_growths_of, rules_for, types_of}
unfoldable pub use Rattle.cj_stream.specs.Query.{criteria}
pub use Rattle.cj_stream.specs.Reading.{HandlesLine, Finishes, FinishesWith, IsLeft, JudgedAs, LacksMemory, EndsLine, Reading, Reads, Refuses, Handles, Stays, Stops, Stores, Unstored, begun_of, further, is_lenient, judged_begun, judged_next, next_item, next_verdict, begun_verdict}
pub use Rattle.cj_stream.specs.ReportSink.{Collects, CountsReport, Notes, NotesPieces, NotesRun}
pub use Rattle.cj_stream.specs.Rows.{Gives, small_feature, small_header, tight_rules, wide_rules}
pub use Rattle.cj_stream.specs.Run.{Account, CountsAll, Ends, Puts, Run, RunsNoting, outcome_of}
pub use Rattle.cj_stream.specs.Scanning.{Forgets, HasHeld, HasRoom, HeldAll, HeldUntil, HoldsFew, HoldsFewNext, IsReady, Rises, Scanned, Scanning, ScansLine, ScansNext, are_readable, scanning}
pub use Rattle.cj_stream.specs.Sink.{AppendsPart, HasRisen, LeavesNext, SinkContract, TookFront, TookMore, TookOf, never_fails, prefixes, with_sink}
pub use Rattle.cj_stream.specs.Tallied.{IsRange, beside, capped, class_count, class_of, how_often, lod_classes, numbers_on, over_features, own_classes, row_number, type_numbers}
pub use Rattle.cj_stream.specs.TallySink.{AreWordsOf, IsTallyOf, RisesBy, TakesNumber, Tally, Widens, last_shown}
pub use Rattle.cj_stream.specs.Verdict.{AreCounted, Ruling, by_least, ending, ending_of, findings, first_end, first_line, goes_on, good, good_from, header_of, is_blank_line, is_kept, is_kept_if_valid, item_after, judged, kept, kept_first, kept_from, kept_of, lines_before, long_line, output, output_first, refusal_from, refusal_in, refusal_of, reported, reported_first, reported_from, reported_of, reports_of, ruling_after, rulings, rulings_closed, rulings_first, rulings_good, stream_of, stretch, text_verdict, tree_verdict, up_to, verdict}
unfoldable pub use Rattle.cj_stream.specs.Verdict.{verdict_at}
pub use Rattle.cj_stream.specs.declared.ending.End.{End}
pub use Rattle.cj_stream.specs.declared.ending.End.TheVariants.{Complete, Memory, ReadFault, ReadLimit, Refused, WriteFault}
pub use Rattle.cj_stream.specs.declared.ending.LineEnd.{LineEnd}
pub use Rattle.cj_stream.specs.declared.query.fault.QueryFault.{QueryFault}
pub use Rattle.cj_stream.specs.declared.query.ids.Entry.{Entry}
pub use Rattle.cj_stream.specs.declared.report_sink.Report.{Report}
pub use Rattle.cj_stream.specs.declared.running.Outcome.{Outcome}
pub use Rattle.std.proofs.Common.{All, Bool, Bor, Contains, Err, IfSome, IsPermutation, IsSome, IsTrue, IsUtf8, List, None, Ok, OnErr, OnOk, Option, Result, Some, [], ap, append-nil, append_assoc, arith, codes, cond, drop, false, filter, flat_map, get_or, if◌then◌else◌, inl, inr, int_le, int_lt, is_eq, is_err, is_lt, is_some, length, length-append, length-drop, length-take, lit<, lit≤, map, max, min, nat_cmp, nat_eq, nat_lt, neg_ℤ, not, of_z, option_map, pos, refl, replicate, rules, slice_get, string_bytes, subst, suc, sym, take, take-append-drop, take_all, take_at, to_z, true, unwrap_or, vec_items, w64, zero, ℕ, ℤ, ◌&&◌, ◌*◌, ◌++◌, ◌+◌, ◌-◌, ◌/◌, ◌<◌, ◌^◌, ◌↔◌, ◌∙◌, ◌∷◌, ◌≡◌, ◌≤ℤ◌, ◌≤◌, ◌⊎◌}
pub use Rattle.std.proofs.Math.Seq.{drop-append_seam, take-append-add}
pub use Rattle.std.proofs.lemmas.Bool.{cases_lt, eqb-false, false≢true}
pub use Rattle.std.proofs.lemmas.Bool.Decides.{nat_tests}
pub use Rattle.std.proofs.lemmas.Fn.{always_returns_same}
pub use Rattle.std.proofs.lemmas.Grind.{flat_map-append}
pub use Rattle.std.proofs.lemmas.Int.{ints}
pub use Rattle.std.proofs.lemmas.Iterator.Consumers.{YieldsList-at, YieldsList-end, YieldsList-turn}
pub use Rattle.std.proofs.lemmas.Iterator.Splits.{YieldsList-from_str_split}
pub use Rattle.std.proofs.lemmas.List.{drop_more, get_or_past, length-map, map-append, take-append-le, take-map}
pub use Rattle.std.proofs.lemmas.List.Elements.{All-append, All-cons, All-nil, filter-append}
pub use Rattle.std.proofs.lemmas.List.Folds.{list_all-append}
pub use Rattle.std.proofs.lemmas.Result.{err_from_is_err_and, on_ok_weaker}
pub use Rattle.std.proofs.lemmas.Str.{IsUtf8-from_ascii, IsUtf8-from_is_utf8, is_utf8-from_IsUtf8, utf8_valid_len-IsValidUpTo}
pub use Rattle.std.specs.Io.KnownBytes.{Appends, Consumes, IsAtEnd, Keeps}
pub use Rattle.std.specs.List.{cons_option, last_or, list_all, list_any}
pub use Rattle.std.specs.Str.{IsValidUpTo}
unfoldable pub use Rattle.std.specs.Str.{chars, is_utf8}
unfoldable pub use Rattle.std.specs.Str.Lossy.{utf8_valid_len}
pub use Rattle.std.specs.Str.Pattern.{FindsChar}
pub use Rattle.std.specs.declared.cmp.Ordering.{Ordering}
pub use Rattle.std.specs.declared.cmp.Ordering.TheVariants.{Equal, Greater, Less}
pub use Rattle.std.specs.declared.str.Split.{Split}

-- ---- values that are not equal

pub false-true : false ≡ true → ⊥
false-true e = cc
