use Rattle.tcc_slices.proofs.CarriedOver.{AreKept}
use Rattle.tcc_slices.proofs.carrying.keeps_reads.Given as goal

abbrev pub invariant-loop-index : goal.invariant-loop-index
invariant-loop-index l = AreKept l.numbers l.large l.source l.readers l.keys l.index
