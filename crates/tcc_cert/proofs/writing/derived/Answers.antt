-- A derived link's line is written, and then its walk.
use Rattle.tcc_cert.proofs.SentFacts.{failed-early, IsSent-then}
use Rattle.tcc_cert.proofs.writing.derived.Goals as goal

pub returns-in_err-line : goal.returns-in_err-line
returns-in_err-line g c = failed-early c.from_residual.result _ _ _ _ _ _ c.from_residual.ensures.0 (rw c.bytes.ensures.value at c.in_err-line.ensures)

pub returns : goal.returns
returns g c = IsSent-then c.steps.result _ _ _ _ _ _ _ _ (rw c.bytes.ensures.value at c.in_ok-line.ensures) c.steps.ensures
