use Rattle.tcc_judge.proofs.Own.{kept_accepted}
use Rattle.tcc_judge.proofs.laws.kept.Goals as goal

pub returns : goal.returns
returns c = kept_accepted
