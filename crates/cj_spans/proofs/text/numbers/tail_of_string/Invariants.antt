use Rattle.cj_spans.proofs.Common.{◌≡◌, Some, chars, tail_on, tail_of, characters_left}
use Rattle.cj_spans.proofs.text.numbers.tail_of_string.Given as goal

abbrev pub invariant-loop-character : goal.invariant-loop-character
invariant-loop-character l = tail_on l.tail (characters_left l.character-iterator) ≡ tail_of (Some (chars l.fn.text))
