use Rattle.tcc_watch.proofs.Alike.{carried}
use Rattle.tcc_watch.proofs.laws.alike.Goals as goal

pub returns : goal.returns
returns c h k level (forth, back) = ((λ cycle. carried h k forth.0 level forth.1 cycle), λ cycle. carried k h back.0 level back.1 cycle)
