use Rattle.std.proofs.Common.{◌≡◌, ◌∷◌, ◌++◌, All, length, drop}
use Rattle.tcc_txn.specs.KeyNumbers.{AreNumbers}
use Rattle.tcc_reads.specs.History.{initial}
use Rattle.tcc_reads.specs.Indexed.{IsWithin, entries_of}
use Rattle.tcc_reads.specs.private.Numbers.{numbered}
use Rattle.tcc_reads.specs.private.KeyIndices.{keys_used}
use Rattle.tcc_reads.specs.private.Verdicts.{writers_in}
use Rattle.tcc_reads.specs.private.Tracings.{is_outside, entries_traced}
use Rattle.tcc_reads.proofs.tracing.trace_all.Given as goal

abbrev pub invariant-loop-place : goal.invariant-loop-place
invariant-loop-place g l = record {
  indices : AreNumbers l.first.writers.keys l.left (keys_used (numbered l.snapshot (drop l.place-index l.places)));
  traced : entries_of l.first.writers.keys l.transactions
      ++ entries_traced (writers_in l.first.writers) (is_outside l.rewrites) (numbered l.snapshot (drop l.place-index l.places))
      ≡ initial ∷ entries_traced (writers_in l.first.writers) (is_outside l.rewrites) (numbered l.snapshot l.places);
  within : All (IsWithin (length l.first.writers.keys)) l.transactions;
}
