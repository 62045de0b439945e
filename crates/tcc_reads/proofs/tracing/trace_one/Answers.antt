use Rattle.tcc_reads.proofs.tracing.trace_one.Goals as goal

pub returns-clause-within : goal.returns-clause-within
returns-clause-within c = rw c.keys-keys.ensures at c.with_transaction.ensures.within
