use Rattle.tcc_lanes.proofs.BackLemmas.{spanned}
use Rattle.tcc_lanes.proofs.laws.spanned.Goals as goal

pub returns : goal.returns
returns c = spanned
