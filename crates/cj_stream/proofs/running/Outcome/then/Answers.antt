use Rattle.std.specs.Io.KnownBytes.{IsAtEnd}
use Rattle.cj_stream.proofs.AccountLemmas.{Account-stays}
use Rattle.cj_stream.proofs.ManyPartsLemmas.{Account-then}
use Rattle.cj_stream.proofs.running.Outcome.then.Goals as goal

pub returns-in-Complete-clause-account : goal.returns-in-Complete-clause-account
returns-in-Complete-clause-account c = λ rules h a b left more cut unread few first second.
    Account-then rules h a b cut c.args.self c.args.next c.both.result (IsAtEnd left) (IsAtEnd more) c.in-Complete.is
    c.both.ensures few first second

pub returns-in_default-clause-account : goal.returns-in_default-clause-account
returns-in_default-clause-account c = λ rules h a b left more cut unread few first second.
    Account-stays rules h a b cut c.args.self c.args.next (IsAtEnd left) (IsAtEnd more) c.in_default.not-Complete unread
    first
