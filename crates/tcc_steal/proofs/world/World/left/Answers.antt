use Rattle.std.proofs.Common.{arith}
use Rattle.tcc_steal.proofs.world.World.left.Goals as goal

pub overflow_cast-result : goal.overflow_cast-result
overflow_cast-result c = omega (arith, c.len.ensures, c.self.inside.left.ok.0, c.self.invariant.few, c.self.invariant.most)
