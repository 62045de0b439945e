use Rattle.tcc_judge.proofs.Own.{own_cycle}
use Rattle.tcc_judge.proofs.laws.own_cycle.Goals as goal

pub returns : goal.returns
returns c = own_cycle
