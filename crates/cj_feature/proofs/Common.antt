-- What most proofs cite of the standard library and of the definitions.
pub use Rattle.cj_budget.specs.Bounded.{BoundedList}
unfoldable pub use Rattle.cj_decimal.specs.Meaning.Decimal.{decimal_of}
pub use Rattle.cj_decimal.specs.Meaning.Equality.{IsFixed, IsInRange, IsNormal, IsWhole}
pub use Rattle.cj_decimal.specs.Meaning.Number.{Number, as_whole, is_fixed, is_fixed_by, units_by, units_of}
pub use Rattle.cj_decimal.specs.Meaning.Spelling.{IsNumberInRange, IsValue}
pub use Rattle.cj_decimal.specs.Word.{IsWordOf}
pub use Rattle.cj_decimal.specs.declared.decimal.DecimalFault.{DecimalFault}
pub use Rattle.cj_feature.specs.Axes.{number_on}
unfoldable pub use Rattle.cj_feature.specs.HeaderView.{has_box, header_tree}
pub use Rattle.cj_feature.specs.Meaning.CityObject.{object_geometries, vertex_of}
pub use Rattle.cj_feature.specs.Meaning.Feature.{city_object, city_objects, feature, feature_rules, geometries, given_list, id_in, id_rule, known_type, object_type, reach_if, second_level, templates_of, texts, unreached, vertex_list}
pub use Rattle.cj_feature.specs.Meaning.Header.{fixed, has_member_named, header, header_rules, template_list, template_vertices, three_numbers, transform, without_members}
pub use Rattle.cj_feature.specs.Meaning.Links.{answered, at_second_level, children, has_item, is_known, links, listed_in, lists, object_links, parent, parents, part, part_of, same_text}
pub use Rattle.cj_feature.specs.Meaning.Reachable.{IsReached, IsReachedObject, Reached, child, itself}
unfoldable pub use Rattle.cj_feature.specs.Meaning.Reached.{is_reached, reached_from}
pub use Rattle.cj_feature.specs.Meaning.Relations.{Children, IsIn}
pub use Rattle.cj_feature.specs.declared.feature.search.noted.Noted.{Noted}
pub use Rattle.cj_feature.specs.declared.feature.search.questions.order.Question.{Question}
pub use Rattle.cj_feature.specs.inner.Kin.{back_of, linked}
pub use Rattle.cj_feature.specs.inner.Marking.{AddsNone, AllMarked, AreNamed, AreReached, HaveMarks, IsBeside, IsGuide, IsMarkedBy, IsToMark, Knows, OnlyMarks, ReachesName, WaitsFor, spans_by}
pub use Rattle.cj_feature.specs.inner.Questions.{AreAnswered, AreLeft, AreListed, AreQuestionsInOrder, IsFirstOn, Side, compare_keys, compare_sides, from_in, key_in, noted, noted_in, pair_key, side_in, side_of, text_side}
pub use Rattle.cj_feature.specs.inner.Slots.{IsReady, SlotHolds}
pub use Rattle.cj_feature.specs.inner.ShortHash.{short_hash_of}
pub use Rattle.cj_feature.specs.inner.Typed.{are_one, are_three, are_two, begins_whole, is_vertex}
pub use Rattle.cj_feature.specs.inner.Unmarked.{AreInNameOrder, ArePassed, IsNoted, IsSought, ListSoughtMarks, SoughtHaveMarks}
pub use Rattle.cj_geometry.proofs.Names.{contains_cases, contains_first, contains_later, contains_none}
pub use Rattle.cj_geometry.specs.Meaning.Geometry.{TemplateSource, count_of, empty, geometry, listed, template_count}
pub use Rattle.cj_geometry.specs.Meaning.Numbers.{index, is_outside, number, spelling, value_findings, value_of, whole_findings, whole_number, whole_of}
pub use Rattle.cj_geometry.specs.Meaning.Rule.{distinct, has_length, if_there, may_have, missing, needs, nothing, of_kind, of_length, one}
pub use Rattle.cj_spans.specs.Marks.{IsMarked, KeepsTokens, bare, has_mark, is_marked_at}
pub use Rattle.cj_spans.specs.Meaning.Finding.{found_at, least}
pub use Rattle.cj_spans.specs.Meaning.Json.{Json, atom_at}
pub use Rattle.cj_spans.specs.Meaning.Kinds.{is_array, is_number, is_object, is_text}
pub use Rattle.cj_spans.specs.Meaning.Least.{IsLeast}
pub use Rattle.cj_spans.specs.Meaning.Parts.{are_same_texts, has_text, items_if, items_of, kind_of, list_members, member_of, members_if, members_of, text_of}
pub use Rattle.cj_spans.specs.Meaning.Tree.{Tree, array, member, no_items, no_members, object, scalar, start_of}
pub use Rattle.cj_spans.specs.Places.{AreValuesInOrder, spelling_of}
pub use Rattle.cj_spans.specs.Preorder.{Span, spans_of}
pub use Rattle.cj_spans.specs.View.{trees}
unfoldable pub use Rattle.cj_spans.specs.View.{document, document_line, document_source, items_left, items_line}
unfoldable pub use Rattle.cj_spans.specs.View.{line_of, members_left, members_line, members_source}
unfoldable pub use Rattle.cj_spans.specs.View.{source_of, tokens_in, tree, tree_at, tree_in}
pub use Rattle.cj_spans.specs.declared.finding.Finding.{Finding}
pub use Rattle.cj_spans.specs.declared.node.Node.{Node}
pub use Rattle.cj_spans.specs.declared.reason.Reason.{Reason}
pub use Rattle.cj_spans.specs.declared.reason.Reason.TheVariants.{BadInstance, ChildNotFound, IdNotFound, LinkNotMutual, MissingMember, NoParent, NotReached, NotThree, TemplateIndex, TransformNotFixed, UnknownObjectType, WrongKind, WrongType, WrongVersion}
pub use Rattle.cj_spans.specs.declared.token.Kind.{Kind}
pub use Rattle.cj_spans.specs.declared.token.Token.{Token}
pub use Rattle.std.proofs.Common.{Bool, Contains, Err, IfNone, IfSome, IsTrue, List, None, Ok, Option, Result, Some, [], ap, append-nil, append_assoc, arith, codes, cond, drop, eqb-true, false, filter, flat_map, inl, inr, is_lt, is_some, length, length-drop, length-set, map, nat_eq, nat_lt, negsuc, not, option_and_then, option_map, pos, refl, rules, slice_set, subst, suc, sym, take, take_at, true, zero, ℕ, ℤ, ◌&&◌, ◌++◌, ◌+◌, ◌-◌, ◌<◌, ◌||◌, ◌∙◌, ◌∷◌, ◌≡◌, ◌≢◌, ◌≤◌, ◌⊎◌}
pub use Rattle.std.proofs.lemmas.Bool.{and_parts, both_ways, cases_Bool, cases_eq, cases_lt, false_from_ne_true}
pub use Rattle.std.proofs.lemmas.Bool.Decides.{nat_tests}
pub use Rattle.std.proofs.lemmas.Fn.{always_returns_same}
pub use Rattle.std.proofs.lemmas.Grind.{common_steps}
pub use Rattle.std.proofs.lemmas.List.{drop-map, drop_all, map-append, take-append-le}
pub use Rattle.std.proofs.lemmas.List.Elements.{All-contains, Contains-append_cases, Contains-append_left, Contains-append_right}
pub use Rattle.std.proofs.lemmas.List.Sorted.{Contains-permutation, IsPartitionPoint-from_clause, IsPermutation-put_mid, IsPermutation-sym, ranks_by, searchable_from_sorted, sorted_far}
pub use Rattle.std.proofs.lemmas.Option.{IfSome_then, slice_get_within}
pub use Rattle.std.specs.List.{list_all, list_any}
pub use Rattle.std.specs.Result.{result_ok}
unfoldable pub use Rattle.std.specs.Str.{chars}
pub use Rattle.std.specs.declared.cmp.Ordering.TheVariants.{Equal, Greater, Less}

-- what was found, with the findings of those that are left, is what was found before with those of all
abbrev pub FindsAll : {A : Type 0} → (A → List Finding) → Option Finding → List A → Option Finding → List A → Type 0
FindsAll rule found left before all = least found (flat_map rule left) ≡ least before (flat_map rule all)
