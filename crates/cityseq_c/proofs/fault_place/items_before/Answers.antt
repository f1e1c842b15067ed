use Rattle.cityseq_c.proofs.Common.{List, YieldsList-from_slice_split, rules, slice_split, ℕ, ◌∙◌}
use Rattle.std.proofs.Common.{nat_eq, tests}
use Rattle.std.proofs.lemmas.Iterator.Consumers.{YieldsList-at, count_from_yields_List}
use Rattle.std.proofs.lemmas.Iterator.Search.{YieldsList-from_take_while}
use Rattle.std.proofs.lemmas.List.Folds.{length-prefix_len}
use Rattle.cityseq_c.specs.FaultPlace.{is_kept}
use Rattle.cityseq_c.proofs.fault_place.items_before.Goals as goal

pub returns : goal.returns
returns c =
    let items : List (List ℕ) = slice_split (λ b. nat_eq b c.args.separator) c.args.list.now in
    count_from_yields_List c.take_while.result _ c.count.ensures.ran
    (YieldsList-from_take_while _ (is_kept c.args.rule)
    (YieldsList-at c.take_while.ensures.source
    (YieldsList-from_slice_split _ (λ b. nat_eq b c.args.separator) c.args.list.now c.split.ensures.rest
    c.split.ensures.done c.split.ensures.closure (λ x r q k. search (rules, tests))))
    c.take_while.ensures.closure c.take_while.ensures.done (λ x b q k. search (rules, tests)))
    ∙ length-prefix_len (is_kept c.args.rule) items
