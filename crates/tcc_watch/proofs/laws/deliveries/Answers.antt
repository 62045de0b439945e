use Rattle.tcc_watch.proofs.Alike.{carried}
use Rattle.tcc_watch.proofs.Deliveries.{there, home}
use Rattle.tcc_reads.specs.Sources.{history}
use Rattle.tcc_watch.proofs.laws.deliveries.Goals as goal

pub returns : goal.returns
returns c s h f level clean of =
    ((λ cycle. carried h (history s) f level (there s h f clean of) cycle), λ cycle. carried (history s) h _ level (home s h f clean of) cycle)
