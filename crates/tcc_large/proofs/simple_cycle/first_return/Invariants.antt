use Rattle.tcc_large.proofs.Returned.{ArePassed}
use Rattle.tcc_large.proofs.simple_cycle.first_return.Given as goal

abbrev pub invariant-loop-index : goal.invariant-loop-index
invariant-loop-index l = ArePassed l.count l.links l.positions l.index
