use Rattle.tcc_reads.specs.History.{entry_at}
use Rattle.tcc_slices.proofs.CarriedOver.{AreWritten}
use Rattle.tcc_slices.proofs.carrying.keeps_writes.Given as goal

abbrev pub invariant-loop-key : goal.invariant-loop-key
invariant-loop-key l = AreWritten l.numbers l.large l.writer (entry_at l.small l.writer).writes l.key-index
