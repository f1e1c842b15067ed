-- What most proofs cite of the standard library and of the definitions.
pub use Rattle.cityseq_command.specs.Commands.{IsCalled, IsCommand, IsOption, bare_app, program_app}
pub use Rattle.cityseq_command.specs.FaultLines.{Wrote, WroteAfter, fault_line, status_after}
pub use Rattle.cityseq_command.specs.Performed.{all_under, run_of}
pub use Rattle.cityseq_command.specs.Summary.{check_text, class_text, peaks_text, power_text, range_line, summary_text, tally_text, type_text}
pub use Rattle.cityseq_command.specs.Text.{count_line}
pub use Rattle.cityseq_command.specs.declared.ask.Ask.TheVariants.{Check, Filter, Info}
unfoldable pub use Rattle.cj_geometry.specs.Meaning.ObjectTypes.{object_types}
pub use Rattle.cj_geometry.specs.ObjectTypes.{row_at}
pub use Rattle.cj_stream.specs.Meaning.Outputs.{Took}
pub use Rattle.cj_stream.specs.Output.{Channel, channel, output_failures, outputs}
pub use Rattle.cj_stream.specs.Query.{rules_for}
pub use Rattle.cj_stream.specs.Sink.{AppendsPart, HasRisen, RisesOnErr}
pub use Rattle.cj_stream.specs.Verdict.{stream_of}
pub use Rattle.cj_stream.specs.declared.ending.End.{End}
pub use Rattle.cj_stream.specs.declared.ending.End.TheVariants.{Complete, Memory}
pub use Rattle.cj_stream.specs.declared.report_sink.Report.{Report}
pub use Rattle.clap.specs.Words.{ReadsOne, Text, new_app}
pub use Rattle.clap.specs.declared.parser.matches.ArgMatches.{ArgMatches}
pub use Rattle.std.proofs.Common.{Err, IfErr, IsErrOf, List, None, Ok, Option, Result, Some, [], ap, append-nil, ap₂, arith, codes, flat_map, get_or, inl, inr, lit<, map, option_map, refl, rules, string_bytes, subst, sym, take, true, unwrap_or, zero-add, ℕ, ◌++◌, ◌∙◌, ◌∷◌, ◌≡◌}
pub use Rattle.std.proofs.lemmas.List.Folds.{flat_map-map}
pub use Rattle.std.proofs.lemmas.Result.{IfErr-weaker, IfOk-weaker}
unfoldable pub use Rattle.std.specs.Fmt.{digits}
pub use Rattle.std.specs.Io.KnownBytes.{Appends, Consumes, IsAtEnd, Keeps}
