use Rattle.std.proofs.Common.{◌<◌, length, ◌∙◌}
use Rattle.tcc_reads.proofs.ListsLemmas.{transactions_long, transactions_reads}
use Rattle.tcc_reads.proofs.transactions.Transactions.reads.Goals as goal

pub row-requires : goal.row-requires
row-requires c = rw c.self.invariant.1 (rw (← c.self.view_is, transactions_long) at c.requires)

pub returns : goal.returns
returns c =
    let places = c.self.inside.places.items in
    let inside : c.args.number < length places = rw (← c.self.view_is, transactions_long) at c.requires in
    rw (← c.self.view_is) (c.row.ensures ∙ transactions_reads places c.self.inside.writes c.self.inside.reads c.args.number inside)
