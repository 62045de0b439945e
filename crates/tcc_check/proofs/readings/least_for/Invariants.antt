use Rattle.tcc_check.proofs.ByKey.{IsLeastFor}
use Rattle.tcc_check.proofs.readings.least_for.Given as goal

abbrev pub invariant-loop-reader : goal.invariant-loop-reader
invariant-loop-reader l = IsLeastFor l.reader-index l.readers l.row l.least
