use Rattle.tcc_check.proofs.Claims.{rejected_false}
use Rattle.tcc_check.proofs.laws.rejected.Goals as goal

pub returns : goal.returns
returns c = rejected_false
