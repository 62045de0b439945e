use Rattle.tcc_cert.specs.OrderRules.{BreaksAxiom}
use Rattle.tcc_check.proofs.First.{HoldsAbove}
use Rattle.tcc_check.proofs.order.broken_axiom.Given as goal

abbrev pub invariant-loop-b : goal.invariant-loop-b
invariant-loop-b l = HoldsAbove l.b (BreaksAxiom l.graph l.claim)
