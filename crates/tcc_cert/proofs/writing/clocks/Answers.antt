-- The mark is written, and then the rows.
use Rattle.tcc_cert.proofs.SentFacts.{failed-early, IsSent-then}
use Rattle.tcc_cert.proofs.writing.clocks.Goals as goal

pub returns-in_err-line-in-Causal : goal.returns-in_err-line-in-Causal
returns-in_err-line-in-Causal g c =
    rw c.in-Causal.is (failed-early c.from_residual.result _ _ _ _ _ _ c.from_residual.ensures.0 c.in_err-line-in-Causal.ensures)

pub returns-in_ok-line-in-Causal : goal.returns-in_ok-line-in-Causal
returns-in_ok-line-in-Causal g c =
    rw c.in-Causal.is (IsSent-then c.table.result _ _ _ _ _ _ _ _ c.in_ok-line-in-Causal.ensures c.table.ensures)
