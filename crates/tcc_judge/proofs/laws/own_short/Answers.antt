use Rattle.tcc_judge.proofs.Own.{own_short}
use Rattle.tcc_judge.proofs.laws.own_short.Goals as goal

pub returns : goal.returns
returns c = own_short
