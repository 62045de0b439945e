use Rattle.std.proofs.Common.{take}
use Rattle.std.specs.Prelude.{Contains}
use Rattle.tcc_clocks.specs.private.Rows.{HasEntries}
use Rattle.tcc_clocks.specs.declared.side.Side.TheVariants.{Past}
use Rattle.tcc_clocks.proofs.latest.find_clocks.Given as goal

abbrev pub invariant-loop-position : goal.invariant-loop-position
invariant-loop-position l = HasEntries Past l.graph l.from (Contains (take l.position l.order)) l.table
