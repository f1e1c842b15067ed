use Rattle.cityseq_command.proofs.Common.{IfOk-weaker, IsCommand, bare_app, rules}
use Rattle.cityseq_command.proofs.PerformLemmas.{with_command}
use Rattle.cityseq_command.proofs.words.program.Goals as goal

pub returns : goal.returns
returns c =
    let bare : IsCommand c.subcommand_required.result bare_app = record { app = search rules; local = search rules } in
    let checks = with_command bare c.in_ok-check_command.ensures c.in_ok-subcommand.ensures in
    let filters = with_command checks c.in_ok-filter_command.ensures c.in_ok-subcommand-2.ensures in
    IfOk-weaker c.subcommand-3.result _ _ (λ m adds. with_command filters c.in_ok-info_command.ensures adds)
    c.subcommand-3.ensures
