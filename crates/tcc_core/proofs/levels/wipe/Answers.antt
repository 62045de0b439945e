use Rattle.std.proofs.Common.{arith}
use Rattle.tcc_core.proofs.LevelWays.{wiped}
use Rattle.tcc_core.proofs.levels.wipe.Goals as goal

pub returns-clause-none : goal.returns-clause-none
returns-clause-none c = wiped c.loop-word.marks (λ k low. c.loop-word.invariant.zeros k (omega (arith, low, c.loop-word-test.false)))
