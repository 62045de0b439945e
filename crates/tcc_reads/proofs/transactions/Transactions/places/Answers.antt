use Rattle.std.proofs.Common.{◌∙◌}
use Rattle.tcc_reads.proofs.ListsLemmas.{transactions_places}
use Rattle.tcc_reads.proofs.transactions.Transactions.places.Goals as goal

pub returns : goal.returns
returns c = rw (← c.self.view_is) (c.deref.ensures.value ∙ transactions_places c.self.inside.places.items c.self.inside.writes c.self.inside.reads)
