use Rattle.std.proofs.Common.{take}
use Rattle.std.specs.Prelude.{Contains}
use Rattle.tcc_derive.specs.private.Sources.{LowersEach}
use Rattle.tcc_derive.proofs.level_sweep.lower_each.Given as goal

abbrev pub invariant-loop-source : goal.invariant-loop-source
invariant-loop-source l = LowersEach (Contains (take l.source-index l.sources)) l.distance l.initial.nearest l.nearest
