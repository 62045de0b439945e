use Rattle.std.proofs.Common.{◌≡◌, true, ◌∷◌, ◌++◌, All, length, drop}
use Rattle.std.specs.Prelude.{flat_map}
use Rattle.tcc_txn.specs.KeyNumbers.{AreNumbers}
use Rattle.tcc_reads.specs.History.{initial}
use Rattle.tcc_reads.specs.Indexed.{IsWithin, entries_of}
use Rattle.tcc_reads.specs.private.Numbers.{numbered}
use Rattle.tcc_reads.specs.private.KeyIndices.{keys_used}
use Rattle.tcc_reads.specs.private.Verdicts.{writers_in, AreOwn, faults_found, entries_found}
use Rattle.tcc_reads.proofs.resolver.examine.Given as goal

abbrev pub invariant-loop-place : goal.invariant-loop-place
invariant-loop-place g l = record {
  indices : AreNumbers l.first.writers.keys l.left (keys_used (numbered l.snapshot (drop l.place-index l.places)));
  own : l.first.distinct ≡ true → AreOwn (writers_in l.first.writers) (numbered l.snapshot (drop l.place-index l.places));
  transactions : entries_of l.first.writers.keys l.transactions
      ++ entries_found (writers_in l.first.writers) (numbered l.snapshot (drop l.place-index l.places)) ≡ initial
      ∷ entries_found (writers_in l.first.writers) (numbered l.snapshot l.places);
  within : All (IsWithin (length l.first.writers.keys)) l.transactions;
  faults : l.faults.items ++ flat_map (faults_found (writers_in l.first.writers)) (numbered l.snapshot (drop l.place-index l.places))
      ≡ flat_map (faults_found (writers_in l.first.writers)) (numbered l.snapshot l.places);
}
