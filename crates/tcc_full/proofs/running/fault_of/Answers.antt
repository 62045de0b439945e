use Rattle.tcc_verdict.proofs.Checked.{for_any}
use Rattle.tcc_full.proofs.Runs.{nothing_noted}
use Rattle.tcc_full.proofs.running.fault_of.Goals as goal

pub returns-in-Ok-clause-noted : goal.returns-in-Ok-clause-noted
returns-in-Ok-clause-noted g c = for_any (g.R.Read.remaining c.args.reader) (λ bytes. nothing_noted g.B.Bounds.limits _ _ _ _ c.in-Ok.ensures.noted)
