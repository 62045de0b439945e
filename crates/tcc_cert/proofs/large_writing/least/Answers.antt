-- The count of runs is written, and then the runs.
use Rattle.tcc_cert.proofs.SentFacts.{failed-early, IsSent-then}
use Rattle.tcc_cert.proofs.large_writing.least.Goals as goal

pub returns-in_err-line-in-Some : goal.returns-in_err-line-in-Some
returns-in_err-line-in-Some g c =
    rw c.in-Some.is (failed-early c.from_residual.result _ _ _ _ _ _ c.from_residual.ensures.0 (rw c.as_slice.ensures at c.in_err-line-in-Some.ensures))

pub returns-in_ok-line-in-Some : goal.returns-in_ok-line-in-Some
returns-in_ok-line-in-Some g c =
    rw c.in-Some.is (IsSent-then c.runs_to_end.result _ _ _ _ _ _ _ _
    (rw c.as_slice.ensures at c.in_ok-line-in-Some.ensures) c.runs_to_end.ensures)
