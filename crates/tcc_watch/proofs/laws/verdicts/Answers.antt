use Rattle.tcc_watch.proofs.OneVerdict.{one_verdict}
use Rattle.tcc_watch.proofs.laws.verdicts.Goals as goal

pub returns : goal.returns
returns c = one_verdict
