-- The line is written, and then all that waits.
use Rattle.std.proofs.Common.{subst, append-nil}
use Rattle.tcc_cert.specs.private.Writing.{IsSent}
use Rattle.tcc_cert.proofs.SentFacts.{IsSent-then}
use Rattle.tcc_cert.proofs.cycle_writer.last_line.Goals as goal

pub returns-clause-sent : goal.returns-clause-sent
returns-clause-sent g c =
    subst (IsSent c.finish.result _ _ _ _) (append-nil _) (IsSent-then c.finish.result _ _ _ _ _ _ _ _ c.in_ok-line.ensures c.finish.ensures.sent)
