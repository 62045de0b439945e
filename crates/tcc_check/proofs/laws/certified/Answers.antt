use Rattle.tcc_check.proofs.Claims.{true_claim}
use Rattle.tcc_check.proofs.laws.certified.Goals as goal

pub returns : goal.returns
returns c = true_claim
