use Rattle.std.proofs.Common.{◌≡◌}
use Rattle.std.specs.Prelude.{flat_map}
use Rattle.cj_spans.specs.Meaning.Finding.{least}
use Rattle.cj_spans.specs.View.{tree, items_left}
use Rattle.cj_spans_tests.specs.Examples.{not_number, not_numbers}
use Rattle.cj_spans_tests.proofs.examples.rules.are_numbers.Given as goal

abbrev pub invariant-loop-item : goal.invariant-loop-item
invariant-loop-item l = least l.found (flat_map not_number (items_left l.item-iterator))
    ≡ least l.initial.found (not_numbers (tree l.node))
