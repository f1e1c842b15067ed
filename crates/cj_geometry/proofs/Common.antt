-- What most proofs cite of the standard library and of the definitions.
pub use Rattle.cj_decimal.specs.Meaning.Class.{Class, no_number, whole_answer}
unfoldable pub use Rattle.cj_decimal.specs.Meaning.Decimal.{decimal_of}
pub use Rattle.cj_decimal.specs.Meaning.Spelling.{IsInt, IsNumberInRange, IsNumberOutOfRange, IsValue, SpellsNumber}
pub use Rattle.cj_decimal.specs.declared.decimal.DecimalFault.{DecimalFault}
pub use Rattle.cj_geometry.specs.ListSteps.{AreSizesAt, first_part, left_of, other_parts}
pub use Rattle.cj_geometry.specs.Lone.{AreLone}
pub use Rattle.cj_geometry.specs.Meaning.Geometry.{count_of, entry, other_count, paired, semantics_if, shape, surface, surfaces, typed_rules, values}
pub use Rattle.cj_geometry.specs.Meaning.Numbers.{fault_reason, index, is_outside, number, spelling, value_findings, whole_findings, whole_number, whole_of}
pub use Rattle.cj_geometry.specs.Meaning.Rule.{distinct, needs, nothing, of_kind, of_length, one, repeats, repeats_of}
pub use Rattle.cj_geometry.specs.ObjectTypes.{number_of, row_at, row_named, row_named_in, row_numbered}
pub use Rattle.cj_geometry.specs.declared.lods.TemplateLod.{TemplateLod}
pub use Rattle.cj_geometry.specs.declared.rule.order.WordedName.{WordedName}
pub use Rattle.cj_geometry.specs.inner.Names.{Ascend, compare_names, is_above, is_below, is_earlier, is_past, last_of, names_of, neighbours, repeat_of}
pub use Rattle.cj_geometry.specs.inner.WordedNames.{AreLeast, HoldNames, IsHeldName, IsWorded, TakeOne, compare_worded, limit_in, name_in, names_in, word_in}
pub use Rattle.cj_spans.specs.Forest.{kind_by, total_size}
pub use Rattle.cj_spans.specs.Initials.{are_apart}
pub use Rattle.cj_spans.specs.Meaning.Finding.{found_at, least}
pub use Rattle.cj_spans.specs.Meaning.Kinds.{is_object, is_text}
pub use Rattle.cj_spans.specs.Meaning.Parts.{are_same_texts, has_text, items_if, items_of, kind_of, list_items, list_members, member_of, members_of, text_of}
pub use Rattle.cj_spans.specs.Meaning.Tree.{Tree, scalar, size, start_of}
pub use Rattle.cj_spans.specs.Places.{AreNamesInOrder, spelling_of}
unfoldable pub use Rattle.cj_spans.specs.View.{items_left, items_source, line_of, members_left, members_source}
unfoldable pub use Rattle.cj_spans.specs.View.{source_of, tree}
pub use Rattle.cj_spans.specs.declared.finding.Finding.{Finding}
pub use Rattle.cj_spans.specs.declared.node.Node.{Node}
pub use Rattle.cj_spans.specs.declared.node.Source.{Source}
pub use Rattle.cj_spans.specs.declared.reason.Reason.{Reason}
pub use Rattle.cj_spans.specs.declared.reason.Reason.TheVariants.{BadInstance, DuplicateName, NotWhole, TemplateIndex, VertexIndex}
pub use Rattle.cj_spans.specs.declared.token.Kind.TheVariants.{Array, Number, Text}
pub use Rattle.std.proofs.Common.{All, Bool, Contains, Err, IfSome, IsPermutation, IsSome, IsSortedBy, List, None, Ok, Option, Result, Some, [], ap, arith, codes, cond, drop, false, flat_map, get_or, if◌then◌else◌, inl, inr, is_eq, is_lt, is_some, length, length-append, length-drop, length-set, length-take-le, map, nat_cmp, nat_eq, nat_lt, negsuc, not, of_z, option_and_then, option_map, pos, refl, replicate, rules, set, slice_get, slice_range, sub-one, subst, suc, sym, take, to_z, true, w64, zero, ℕ, ℤ, ◌%◌, ◌&&◌, ◌++◌, ◌+◌, ◌-◌, ◌<◌, ◌^◌, ◌↔◌, ◌∙◌, ◌∷◌, ◌≡◌, ◌≤◌, ◌⊎◌}
pub use Rattle.std.proofs.lemmas.Bool.{cases_eq, cases_lt, cases_order, or_from}
pub use Rattle.std.proofs.lemmas.Bool.Decides.{nat_tests}
pub use Rattle.std.proofs.lemmas.List.Sorted.{All-permutation, ranks_by, sorted_far}
pub use Rattle.std.proofs.lemmas.Slice.Eq.{bytes_eq-Decides}
pub use Rattle.std.specs.Option.{ForSome}
pub use Rattle.std.specs.Result.{result_ok}
unfoldable pub use Rattle.std.specs.Str.{chars}
pub use Rattle.std.specs.declared.cmp.Ordering.{Ordering}
pub use Rattle.std.specs.declared.cmp.Ordering.TheVariants.{Equal, Greater, Less}
