use Rattle.std.proofs.Common.{refl}
use Rattle.cj_spans.specs.Meaning.Json.{padded, empty_object}
use Rattle.cj_spans.proofs.Sound.{no_white}
use Rattle.cj_spans.proofs.Endings.{text_no_fault}
use Rattle.cj_spans_tests.proofs.examples.whole_text.Goals as goal

pub returns : goal.returns
returns c =
    text_no_fault _ _ (padded 0 0 2 2 _ (no_white _ 0) (empty_object 0 1 refl (no_white _ 1) refl) (no_white _ 2))
