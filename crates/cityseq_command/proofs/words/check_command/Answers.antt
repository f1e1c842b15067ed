use Rattle.cityseq_command.proofs.Common.{IfOk-weaker, codes, new_app}
use Rattle.cityseq_command.proofs.PerformLemmas.{with_option}
use Rattle.cityseq_command.proofs.words.check_command.Goals as goal

pub returns : goal.returns
returns c =
    let limited = c.in_ok-with_limits.ensures (new_app (codes "check")) c.described-command.ensures in
    let going = with_option limited c.keep_going.ensures c.in_ok-arg.ensures in
    let trees = with_option going c.tree.ensures c.in_ok-arg-2.ensures in
    IfOk-weaker c.arg-3.result _ _ (λ m adds. with_option trees c.extensions.ensures adds) c.arg-3.ensures
