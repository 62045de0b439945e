use Rattle.tcc_derive.proofs.LinksOnLemmas.{links_of}
use Rattle.tcc_derive.proofs.laws.links.Goals as goal

pub returns : goal.returns
returns c = links_of
