use Rattle.tcc_steal.specs.private.Working.{AreThieves}
use Rattle.tcc_steal.proofs.fork_join.thieves.Given as goal

abbrev pub invariant-loop-number : goal.invariant-loop-number
invariant-loop-number g l = AreThieves l.workers l.thieves.items
