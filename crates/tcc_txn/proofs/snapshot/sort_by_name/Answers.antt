use Rattle.std.proofs.Common.{rules}
use Rattle.std.proofs.lemmas.List.Sorted.{answers_always}
use Rattle.tcc_txn.proofs.snapshot.sort_by_name.Goals as goal

-- the closure returns the name of each part
pub returns-clause-sorted : goal.returns-clause-sorted
returns-clause-sorted c = c.sort_unstable_by_key.ensures.sorted (λ part. part.0) (answers_always _ _ _ (λ f a r k called. search rules))
