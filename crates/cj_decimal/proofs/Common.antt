-- What most proofs cite of the standard library and of the definitions.
pub use Rattle.cj_decimal.specs.FewDigits.{IsFewDigits, IsFewSigned, IsNumberIfBegun}
pub use Rattle.cj_decimal.specs.Meaning.Class.{Class, SaySame, no_number, not_whole, out_of_range, value_answer, whole, whole_answer, whole_answer_by}
pub use Rattle.cj_decimal.specs.Meaning.Equality.{IsInRange, IsNormal, IsOutOfRange, IsWhole, SameValue, brought, smaller_power, value_order}
pub use Rattle.cj_decimal.specs.Meaning.Number.{Number, as_whole, is_in_range, scaled, signed, whole_by}
pub use Rattle.cj_decimal.specs.Meaning.Reading.{Written, digits_value, is_number, value_after, written_of}
unfoldable pub use Rattle.cj_decimal.specs.Meaning.Reading.{after_frac, begins, begins_digit, body, digits_front}
unfoldable pub use Rattle.cj_decimal.specs.Meaning.Reading.{digits_rest, exp_digits, exp_value, frac_digits, is_empty}
unfoldable pub use Rattle.cj_decimal.specs.Meaning.Reading.{is_exp, is_frac, is_int, is_whole_digits}
pub use Rattle.cj_decimal.specs.Meaning.Spelling.{AllDigits, ExpParts, HasOneValue, IsDigit, IsDigits, IsExp, IsExpSign, IsFrac, IsInt, IsMinus, IsNumberInRange, IsNumberOutOfRange, IsValue, Spells, SpellsNumber, number_of}
pub use Rattle.cj_decimal.specs.declared.decimal.DecimalFault.TheVariants.{NotANumber, NumberRange}
pub use Rattle.cj_decimal.specs.inner.Digits.{IsTooLong, IsTrimmed, StandsFor}
pub use Rattle.cj_decimal.specs.inner.Reading.{Carries, IsReadOf, IsShort, Passes, Saturates, SaturatesSize, Stops}
pub use Rattle.std.proofs.Common.{Bool, Err, IsTrue, List, None, Ok, Option, Result, Some, [], ap, arith, cond, drop, false, get_or, inl, inr, length, length-drop, map, nat_eq, nat_le, nat_lt, neg_ℤ, negsuc, not, of_z, pos, refl, rules, subst, suc, sym, take, to_z, true, w64, zero, ℕ, ℤ, ⊎_elim, ◌%◌, ◌&&◌, ◌*ℤ◌, ◌*◌, ◌++◌, ◌+ℤ◌, ◌+◌, ◌-ℤ◌, ◌-◌, ◌/◌, ◌<ℤ◌, ◌<◌, ◌^◌, ◌||◌, ◌∙◌, ◌∷◌, ◌≡◌, ◌≢◌, ◌≤ℤ◌, ◌≤◌}
pub use Rattle.std.proofs.Math.Nat.{le-mul_of_pos_right, le_of_mul-le-mul_right, mul-le-mul_left, mul-le-mul_right, mul-lt-mul_of_pos_right, mul-mod_right, one-le-pow, pow-le-pow_right, pow-suc}
pub use Rattle.std.proofs.lemmas.Bool.{and_from, and_parts, cases_Bool, cases_lt, cond-false, cond-true, false_from_ne_true, false≢true}
pub use Rattle.std.proofs.lemmas.Bool.Decides.{nat_tests}
pub use Rattle.std.proofs.lemmas.Int.{by_lt_z, clamps, fits_signed_from_abs, ints, to_z-of_z, unsigned_abs-mul}
pub use Rattle.std.proofs.lemmas.List.{append-nil, drop_all, drop_more, length-append, length-map, length-replicate, nil_from_length}
pub use Rattle.std.proofs.lemmas.Nat.{and_mask, le_bytes_8, pow-add, shr-shr, xor_lt}
pub use Rattle.std.specs.Char.{is_ascii_digit}
pub use Rattle.std.specs.Int.Bits.{and_block, bit_and, bit_xor, xor_block}
pub use Rattle.std.specs.Prelude.{FitsSigned, IfOk, IfSome, IsSome, slice_range, unsigned_abs, ◌⊎◌}
