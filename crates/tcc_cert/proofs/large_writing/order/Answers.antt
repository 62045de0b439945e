-- The sizes are written, and then the runs.
use Rattle.tcc_cert.proofs.SentFacts.{failed-early, IsSent-then}
use Rattle.tcc_cert.proofs.large_writing.order.Goals as goal

pub returns-in_err-line : goal.returns-in_err-line
returns-in_err-line g c =
    failed-early c.from_residual.result _ _ _ _ _ _ c.from_residual.ensures.0 (rw c.as_slice.ensures at c.in_err-line.ensures)

pub returns : goal.returns
returns g c =
    IsSent-then c.runs_to_end.result _ _ _ _ _ _ _ _ (rw c.as_slice.ensures at c.in_ok-line.ensures) c.runs_to_end.ensures
