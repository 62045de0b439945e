use Rattle.tcc_order.specs.private.Held.{AreRoots}
use Rattle.tcc_order.proofs.kahn.roots.Given as goal

abbrev pub invariant-loop-number : goal.invariant-loop-number
invariant-loop-number l = AreRoots l.parents l.number l.roots.items
