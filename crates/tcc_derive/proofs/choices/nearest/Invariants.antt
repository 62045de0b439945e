use Rattle.tcc_derive.proofs.ChoiceLemmas.{IsBest}
use Rattle.std.proofs.Common.{take}
use Rattle.tcc_derive.proofs.choices.nearest.Given as goal

abbrev pub invariant-loop-reader : goal.invariant-loop-reader
invariant-loop-reader l = IsBest (take l.reader-index l.readers) l.steps l.least l.best
