use Rattle.std.proofs.Common.{arith}
use Rattle.tcc_bound.proofs.Keeping.{names}
use Rattle.tcc_bound.proofs.bound.name.Goals as goal

pub load-requires : goal.load-requires
load-requires g c = (c.requires.table.0, omega arith, names _ _ _ _ c.requires.first (omega arith))
