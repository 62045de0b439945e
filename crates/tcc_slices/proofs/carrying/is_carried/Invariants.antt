use Rattle.tcc_slices.proofs.CarriedOver.{HasKept}
use Rattle.tcc_slices.proofs.carrying.is_carried.Given as goal

abbrev pub invariant-loop-number : goal.invariant-loop-number
invariant-loop-number l = HasKept l.numbers l.small l.large l.number
