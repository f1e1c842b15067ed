use Rattle.cityseq_command.proofs.Common.{IfOk-weaker, codes, new_app}
use Rattle.cityseq_command.proofs.PerformLemmas.{with_option}
use Rattle.cityseq_command.proofs.words.info_command.Goals as goal

pub returns : goal.returns
returns c =
    let limited = c.in_ok-with_limits.ensures (new_app (codes "info")) c.described-command.ensures in
    let trees = with_option limited c.tree.ensures c.in_ok-arg.ensures in
    IfOk-weaker c.arg-2.result _ _ (λ m adds. with_option trees c.extensions.ensures adds) c.arg-2.ensures
