use Rattle.tcc_large.proofs.Returned.{least_simple}
use Rattle.tcc_large.proofs.laws.least.Goals as goal

pub returns : goal.returns
returns c = least_simple
