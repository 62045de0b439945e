-- The mark is written if it was not yet, and then the end.
use Rattle.tcc_cert.proofs.SentFacts.{failed-early, IsSent-then}
use Rattle.tcc_cert.proofs.cycle_writer.close.Goals as goal

pub returns-in_err-far_line-clause-sent : goal.returns-in_err-far_line-clause-sent
returns-in_err-far_line-clause-sent g c = failed-early c.from_residual.result _ _ _ _ _ _ c.from_residual.ensures.0 c.in_err-far_line.ensures

pub returns-clause-sent : goal.returns-clause-sent
returns-clause-sent g c = IsSent-then c.last_line.result _ _ _ _ _ _ _ _ c.in_ok-far_line.ensures c.last_line.ensures.sent
