-- The texts of strings as a relation, by the cases of the grammar of strings (RFC 8259, section 7).
use Rattle.std.specs.Prelude.{◌≡◌, ℕ, List, [], ◌∷◌, true, false, nat_eq}
use Rattle.std.specs.Char.Utf16.{is_high_surrogate, is_low_surrogate, surrogate_pair_char}
use Rattle.cj_spans.specs.Meaning.Signs.{backslash, small_u}
use Rattle.cj_spans.specs.Meaning.Text.{four_digits, escaped, is_pair}

-- the same as a relation, by the cases of a string's grammar: a character that stands for itself, a backslash and a
-- letter, an escaped surrogate pair, and any other backslash and `u` with four digits
pub data StandFor : List ℕ → List ℕ → Type 0 where
  done : StandFor [] []
  plain : (c : ℕ) (cs ps : List ℕ) → nat_eq c backslash ≡ false → StandFor cs ps → StandFor (c ∷ cs) (c ∷ ps)
  letter : (c : ℕ) (cs ps : List ℕ) → nat_eq c small_u ≡ false → StandFor cs ps
      → StandFor (backslash ∷ c ∷ cs) (escaped c ∷ ps)
  pair : (h i j k l m n o : ℕ) (cs ps : List ℕ) → is_high_surrogate (four_digits (h ∷ i ∷ j ∷ k ∷ [])) ≡ true
      → is_low_surrogate (four_digits (l ∷ m ∷ n ∷ o ∷ [])) ≡ true → StandFor cs ps
      → StandFor (backslash ∷ small_u ∷ h ∷ i ∷ j ∷ k ∷ backslash ∷ small_u ∷ l ∷ m ∷ n ∷ o ∷ cs)
      (surrogate_pair_char (four_digits (h ∷ i ∷ j ∷ k ∷ [])) (four_digits (l ∷ m ∷ n ∷ o ∷ [])) ∷ ps)
  single : (h i j k : ℕ) (cs ps : List ℕ) → is_pair (backslash ∷ small_u ∷ h ∷ i ∷ j ∷ k ∷ cs) ≡ false → StandFor cs ps
      → StandFor (backslash ∷ small_u ∷ h ∷ i ∷ j ∷ k ∷ cs) (four_digits (h ∷ i ∷ j ∷ k ∷ []) ∷ ps)
