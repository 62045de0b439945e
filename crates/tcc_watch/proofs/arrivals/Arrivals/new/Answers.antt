use Rattle.tcc_watch.proofs.ArrivalLemmas.{first_arrivals}
use Rattle.tcc_watch.proofs.arrivals.Arrivals.new.Goals as goal

pub returns : goal.returns
returns c = first_arrivals _ _ c.new-2.ensures.items c.in_ok-kept.ensures
