use Rattle.std.proofs.Common.{arith}
use Rattle.tcc_reads.proofs.ListsLemmas.{transactions_long}
use Rattle.tcc_reads.proofs.transactions.Transactions.len.Goals as goal

pub returns : goal.returns
returns c =
    let places = c.self.inside.places.items in
    rw (← c.self.view_is) (omega (arith, c.len.ensures, transactions_long places c.self.inside.writes c.self.inside.reads))
