-- The kinds of values, each as a test.
use Rattle.std.specs.Prelude.{Bool, true, false}
use Rattle.cj_spans.specs.declared.token.Kind.{Kind}
use Rattle.cj_spans.specs.declared.token.Kind.TheVariants.{Null, Number, Text, Array, Object}

abbrev pub is_null : Kind → Bool
is_null Null = true
is_null k = false

abbrev pub is_number : Kind → Bool
is_number Number = true
is_number k = false

abbrev pub is_text : Kind → Bool
is_text Text = true
is_text k = false

abbrev pub is_array : Kind → Bool
is_array Array = true
is_array k = false

abbrev pub is_object : Kind → Bool
is_object Object = true
is_object k = false
