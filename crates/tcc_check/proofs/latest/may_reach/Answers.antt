-- By the clock.
use Rattle.std.proofs.Common.{arith}
use Rattle.std.proofs.lemmas.Bool.{eqb-true, eq-eqb}
use Rattle.tcc_check.proofs.latest.may_reach.Goals as goal

pub clock_gap-requires-clause-c : goal.clock_gap-requires-clause-c
clock_gap-requires-clause-c c = omega (arith, c.requires.clocks.long, c.requires.c)

pub returns : goal.returns
returns c = (λ t. c.clock_gap.ensures.0 (eqb-true _ _ t), λ reach. eq-eqb _ _ (c.clock_gap.ensures.1 reach))
