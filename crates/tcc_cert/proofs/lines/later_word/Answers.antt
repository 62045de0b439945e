-- The space is written, then the word.
use Rattle.tcc_cert.proofs.SentFacts.{failed-early, IsSent-then}
use Rattle.tcc_cert.proofs.lines.later_word.Goals as goal

pub returns-in_err-put : goal.returns-in_err-put
returns-in_err-put g c = failed-early c.from_residual.result _ _ _ _ _ _ c.from_residual.ensures.0 c.in_err-put.ensures

pub returns : goal.returns
returns g c = IsSent-then _ _ _ _ _ _ _ _ _ c.in_ok-put.ensures c.put_word.ensures
