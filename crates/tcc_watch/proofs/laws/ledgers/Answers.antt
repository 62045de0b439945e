use Rattle.tcc_reads.specs.Sources.{history}
use Rattle.tcc_watch.proofs.Alike.{carried}
use Rattle.tcc_watch.proofs.Deliveries.{there, home}
use Rattle.tcc_watch.proofs.LedgerDelivery.{f, delivery}
use Rattle.tcc_watch.proofs.LedgerSites.{faultless}
use Rattle.tcc_watch.proofs.laws.ledgers.Goals as goal

pub returns-clause-resolved : goal.returns-clause-resolved
returns-clause-resolved c s names h ledger = faultless s names h ledger

pub returns-clause-delivered : goal.returns-clause-delivered
returns-clause-delivered c s names h ledger = (f s names h ledger, delivery s names h ledger)

pub returns-clause-decided : goal.returns-clause-decided
returns-clause-decided c s names h level ledger =
    let clean = faultless s names h ledger in
    let of = delivery s names h ledger in
    ((λ cycle. carried h (history s) (f s names h ledger) level (there s h (f s names h ledger) clean of) cycle), λ cycle. carried (history s) h _ level (home s h (f s names h ledger) clean of) cycle)
