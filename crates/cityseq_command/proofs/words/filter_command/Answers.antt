use Rattle.cityseq_command.proofs.Common.{IfOk-weaker, codes, new_app}
use Rattle.cityseq_command.proofs.PerformLemmas.{with_option}
use Rattle.cityseq_command.proofs.words.filter_command.Goals as goal

pub returns : goal.returns
returns c =
    let limited = c.in_ok-with_limits.ensures (new_app (codes "filter")) c.described-command.ensures in
    let going = with_option limited c.keep_going.ensures c.in_ok-arg.ensures in
    let trees = with_option going c.tree.ensures c.in_ok-arg-2.ensures in
    let extended = with_option trees c.extensions.ensures c.in_ok-arg-3.ensures in
    let excluding = with_option extended c.flag.ensures c.in_ok-arg-4.ensures in
    let by_ids = with_option excluding c.query_option.ensures c.in_ok-arg-5.ensures in
    let by_types = with_option by_ids c.query_option-2.ensures c.in_ok-arg-6.ensures in
    let by_lods = with_option by_types c.query_option-3.ensures c.in_ok-arg-7.ensures in
    IfOk-weaker c.arg-8.result _ _ (λ m adds. with_option by_lods c.query_option-4.ensures adds) c.arg-8.ensures
