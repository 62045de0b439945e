-- What was sent before the failure is a part of what was held.
use Rattle.tcc_cert.proofs.SentFacts.{failed, Stops-held}
use Rattle.tcc_cert.proofs.outgoing.Outgoing.send.Goals as goal

pub returns-in_err-write_out-clause-sent : goal.returns-in_err-write_out-clause-sent
returns-in_err-write_out-clause-sent g c =
    failed c.from_residual.result _ _ _ _ _ c.from_residual.ensures.0
    (rw (← c.self.view_is) (Stops-held c.in_err-write_out.ensures.part.0 _ c.in_err-write_out.ensures.part.1))
