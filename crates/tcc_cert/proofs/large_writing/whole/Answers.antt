-- The first line is written, then the claim, and last what is still outgoing.
use Rattle.tcc_base.proofs.Failing.{on_err}
use Rattle.tcc_cert.proofs.SentFacts.{part_out, Sends-then, Stops-early, Stops-then, Appends-part}
use Rattle.tcc_cert.proofs.large_writing.whole.Goals as goal

pub returns-in_err-header_line-clause-part : goal.returns-in_err-header_line-clause-part
returns-in_err-header_line-clause-part g c =
    on_err c.from_residual.result (Appends-part (Stops-early _ (rw (c.new-outgoing.ensures, c.level_of.ensures) at c.in_err-header_line.ensures)))

pub returns-in_err-claim-clause-part : goal.returns-in_err-claim-clause-part
returns-in_err-claim-clause-part g c =
    on_err c.from_residual-in_err-claim.result
    (Appends-part (Stops-then (rw (c.new-outgoing.ensures, c.level_of.ensures) at c.in_ok-header_line.ensures) c.in_err-claim.ensures))

pub returns-clause-part : goal.returns-clause-part
returns-clause-part g c =
    part_out c.finish.result _ _ _ _ _ _
    (Sends-then (rw (c.new-outgoing.ensures, c.level_of.ensures) at c.in_ok-header_line.ensures) c.in_ok-claim.ensures) c.finish.ensures.sent
