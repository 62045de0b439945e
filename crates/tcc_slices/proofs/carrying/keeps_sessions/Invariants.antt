use Rattle.tcc_slices.proofs.CarriedOver.{AreLater}
use Rattle.tcc_slices.proofs.carrying.keeps_sessions.Given as goal

abbrev pub invariant-loop-later : goal.invariant-loop-later
invariant-loop-later l = AreLater l.numbers l.large l.first l.low l.later
