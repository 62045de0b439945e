use Rattle.tcc_least.proofs.LeadingBack.{link_back}
use Rattle.tcc_least.proofs.laws.back.Goals as goal

pub returns : goal.returns
returns c = link_back
