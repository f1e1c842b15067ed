use Rattle.cj_spans.proofs.Common.{members_left, members_source, arith, common_steps}
use Rattle.cj_spans.proofs.node.Members.find_from.Goals as goal

pub loop-key-init : goal.loop-key-init
unfolding members_left members_source
loop-key-init c = grind (arith, common_steps, members_left)
