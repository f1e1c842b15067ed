-- What most proofs cite of the standard library and of the definitions.
pub use Rattle.cj_budget.specs.Bounded.{Becomes, BoundedList, IsWithin}
pub use Rattle.cj_spans.specs.Answers.{IsAnswerOf, IsReservedAnswerOf, widened_fault}
pub use Rattle.cj_spans.specs.Forest.{atom_of, held, items_from, kind_by, members_from, node, past, total_size}
unfoldable pub use Rattle.cj_spans.specs.Forest.{forest}
pub use Rattle.cj_spans.specs.Initials.{are_apart, begin_apart, first_code_of, head, then_apart}
pub use Rattle.cj_spans.specs.Marks.{AreUnmarked, is_marked_at}
pub use Rattle.cj_spans.specs.Meaning.Json.{IsAtom, Json, LedItems, LedMembers, Named, Padded, Value, White, atom, atom_at, byte, empty_array, empty_object, full_array, full_object, led, led_member, named, no_led, no_led_members, padded}
pub use Rattle.cj_spans.specs.Meaning.Judgement.{Judgement, SaySame, broken, spelled, sunk}
pub use Rattle.cj_spans.specs.Meaning.Kinds.{is_number, is_text}
pub use Rattle.cj_spans.specs.Meaning.Parts.{are_same_texts, first_named, has_text, items_of, kind_of, list_items, list_members, member_of, members_of, text_of}
pub use Rattle.cj_spans.specs.Meaning.Prefix.{Begun, DeepAt, IsJsonPrefix, JsonPrefix, MemberPrefix, NowhereDeep, SyntaxAt, after_name, before_name, begun, in_array, in_name, in_object, in_value, short, stuck, white, whole}
pub use Rattle.cj_spans.specs.Meaning.Spelling.{AllDigits, IsBody, IsDigit, IsDigits, IsExp, IsExpRest, IsFrac, IsInt, IsMinus, IsNumber, IsScalar, IsString, escape, is_escape, is_hex, is_plain, is_white_space, nothing, plain, unicode}
pub use Rattle.cj_spans.specs.Meaning.Text.{are_same, body_of, char_of, escaped, four_digits, is_escaped, is_pair, is_unicode, unit}
unfoldable pub use Rattle.cj_spans.specs.Meaning.Text.{code_points_after, first_code_point, first_width, text}
pub use Rattle.cj_spans.specs.Meaning.Tree.{Atom, Items, Members, Tree, add_item, add_member, array, item, items_nest, items_size, member, members_nest, members_size, nest, no_items, no_members, object, scalar, size, start_of}
pub use Rattle.cj_spans.specs.Hash.{hash_on, hash_step}
pub use Rattle.cj_spans.specs.Order.{compare, compare_texts, digits, front_word}
pub use Rattle.cj_spans.specs.Places.{AreNamesInOrder, AreValuesInOrder, spelling_of}
pub use Rattle.cj_spans.specs.Preorder.{Span, flatten, flatten_items, flatten_members, items_preorder, members_preorder, preorder, span_at, spans_of, token_at}
pub use Rattle.cj_spans.specs.Scan.{AreSized, HasPeakAt, IsDeepest, IsScanOf, KeepsLaw}
pub use Rattle.cj_spans.specs.Sound.{AreFull, AreLinked, AreLone, AreNamed, AreNested, AreOf, AreRising, AreSpelled, AreWhole, AreWithin, ShowMembers, StopBefore, are_members, before, is_name, items_end, link_of, members_end, shown_between}
pub use Rattle.cj_spans.specs.Tail.{tail_of, tail_on}
pub use Rattle.cj_spans.specs.View.{pairs_of}
unfoldable pub use Rattle.cj_spans.specs.View.{document, document_line, document_source, items_left, items_line}
unfoldable pub use Rattle.cj_spans.specs.View.{items_source, line_of, members_left, members_line, members_source}
unfoldable pub use Rattle.cj_spans.specs.View.{source_of, tokens_in, tree, tree_at, tree_in}
pub use Rattle.cj_spans.specs.declared.fault.LineFault.{LineFault}
pub use Rattle.cj_spans.specs.declared.fault.LineFault.TheVariants.{NotUtf8, Syntax, TooDeep}
pub use Rattle.cj_spans.specs.declared.lex.Lex.{Lex}
pub use Rattle.cj_spans.specs.declared.lex.Lex.TheVariants.{AfterF, AfterFa, AfterFal, AfterFals, AfterN, AfterNu, AfterNul, AfterT, AfterTr, AfterTru, Escape, Exponent, Fraction, Hex1, Hex2, Hex3, Hex4, InString, Mark, MarkSign, Minus, NullDone, Point, StringDone, TruthDone, Whole, Zero}
pub use Rattle.cj_spans.specs.declared.step.Inner.{Inner}
pub use Rattle.cj_spans.specs.declared.step.Mode.{Mode}
pub use Rattle.cj_spans.specs.declared.step.Mode.TheVariants.{After, AfterName, FirstItem, FirstName, NextName, Ready}
pub use Rattle.cj_spans.specs.declared.step.Move.{Move}
pub use Rattle.cj_spans.specs.declared.step.Move.TheVariants.{Open, To}
pub use Rattle.cj_spans.specs.declared.step.Next.{Next}
pub use Rattle.cj_spans.specs.declared.token.Kind.{Kind}
pub use Rattle.cj_spans.specs.declared.token.Kind.TheVariants.{Array, Null, Number, Object, Text, Truth}
pub use Rattle.cj_spans.specs.declared.token.Token.{Token}
pub use Rattle.cj_spans.specs.inner.Atom.{GoesTo, ReadsTo}
pub use Rattle.cj_spans.specs.inner.Decoding.{AreAlike, ReadsCodePoint, StartAlike, after_read, characters_left, code_points_from, code_points_left, left}
pub use Rattle.cj_spans.specs.inner.Machine.{Accepts, Answers, BeginsAtom, BeginsName, BeginsNameNext, BeginsValue, BeginsValueNext, ComesTo, Continues, EndAnswers, EndsItem, FitsToken, Grown, Halts, InArray, InObject, IsInnermost, IsNumberUpTo, IsQuoted, Kept, MayCloseArray, Phase, Reaches, ReadsByte, RunAnswers, SinksAt, State, StaysInArrayNext, StaysInObjectNext, Sticks, SticksAt, SticksFlat, StringLeads, after_in, after_token, after_top, after_value, begin_name, begin_value, between, close_empty, close_token, deepest_after, digit_or, end_atom, further, go_on, here, hex, in_atom, is_digit, lex_kind, lex_start, lex_step, mark, moved, on, one, open_kind, open_link, phase_after, point_or_mark, read, read_in, settle, sign_mark, start, state, step, still, with_closed, with_opened}
pub use Rattle.cj_spans.specs.inner.Pass.{ComesArray, EndsItems, GoesOn, IsInside, KeepsTokens, LeadsIn, ReadsNumbers, Standing, Stands, StandsIn}
pub use Rattle.cj_spans.specs.inner.Wholes.{AreMarked, AreMarkedTo, IsWholeSign}
pub use Rattle.std.proofs.Common.{Bool, Err, IsTrue, IsUtf8, List, None, Ok, Option, Result, Some, [], add-one, ap, append_assoc, arith, cond, drop, drop-cons, eqb, eqb-true, false, get_or, inl, inr, length, length-append, ltb, map, max, nat_eq, nat_le, nat_lt, not, refl, replicate, rules, slice_get, slice_range, slice_set, subst, suc, sym, take, take-add, true, w64, w8, zero, ℕ, ◌%◌, ◌&&◌, ◌*◌, ◌++◌, ◌+◌, ◌-◌, ◌/◌, ◌<◌, ◌^◌, ◌||◌, ◌∙◌, ◌∷◌, ◌≡◌, ◌≢◌, ◌≤◌, ◌⊎◌}
pub use Rattle.std.proofs.Math.Nat.{div-div-eq-div-mul, div-eq_of_lt, div-lt_iff_lt-mul, eq-or-lt_of_le, mul-le-mul_right}
pub use Rattle.std.proofs.Math.Seq.{set-append_seam, take-length, take-suc}
pub use Rattle.std.proofs.lemmas.Bool.{cases_eq, cases_lt, cases_order, false≢true, ltb-true}
pub use Rattle.std.proofs.lemmas.Bool.Decides.{nat_tests}
pub use Rattle.std.proofs.lemmas.Grind.{common_steps, merely}
pub use Rattle.std.proofs.lemmas.Iterator.Consumers.{YieldsList-from_first}
pub use Rattle.std.proofs.lemmas.Iterator.Search.{cmp_from_yields_List}
pub use Rattle.std.proofs.lemmas.List.{append-nil, drop-drop, drop-take, drop_more, get_or-drop, get_or-map, get_or-set_other, get_or-set_same, get_or-take, length-drop, length-map, length-set, length-take, map-id, map-set, take-append-drop, take-append-le, take_rest}
pub use Rattle.std.proofs.lemmas.Map.Text.{is_eq-slice_cmp}
pub use Rattle.std.proofs.lemmas.Option.{slice_get_within}
pub use Rattle.std.specs.Cmp.{first_so, second_so, tied_itself}
pub use Rattle.std.specs.Cmp.Derive.{both_true}
pub use Rattle.std.specs.Int.Count.{count_trailing_zeros}
pub use Rattle.std.specs.List.{prefix_len}
pub use Rattle.std.specs.Ordering.{is_eq, nat_cmp, ordering_then}
pub use Rattle.std.specs.Prelude.{All, Contains, IfSome, IsSomeAnd, OnOk, encode_utf8, flat_map, min, option_and_then, option_map, ⊤}
pub use Rattle.std.specs.Str.{IsAscii, IsValidUpTo, chars_after, continuation_len, lead_bits}
unfoldable pub use Rattle.std.specs.Str.{chars}
pub use Rattle.std.specs.declared.cmp.Ordering.TheVariants.{Equal, Greater, Less}
