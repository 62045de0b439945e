use Rattle.tcc_check.proofs.CertifiedOrder.{commit_order}
use Rattle.tcc_check.proofs.laws.certified_order.Goals as goal

pub returns : goal.returns
returns c = commit_order
