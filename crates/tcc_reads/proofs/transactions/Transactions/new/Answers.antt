use Rattle.tcc_reads.proofs.ListsLemmas.{no_transactions}
use Rattle.tcc_reads.proofs.transactions.Transactions.new.Goals as goal

pub returns : goal.returns
returns c = rw c.new.ensures.items (no_transactions c.new-2.result c.new-3.result)
