use Rattle.cj_stream.proofs.Common.{refl}
use Rattle.cj_stream.proofs.ScanningLemmas.{scans-unread, unread-said}
use Rattle.cj_stream.proofs.validator.Validator.scan_later.Goals as goal

pub returns-in_err-judge-clause-scans : goal.returns-in_err-judge-clause-scans
returns-in_err-judge-clause-scans c =
    let limits = c.args.self.now.limits in
    let content = c.args.content.now in
    scans-unread _ _ _ _ c.requires.lists c.requires.short refl c.judge.ensures.law
    (unread-said limits content c.requires.not_blank (rw c.requires.lists.opened
    at c.in_err-judge.ensures.unread))
