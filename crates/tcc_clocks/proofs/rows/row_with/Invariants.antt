use Rattle.std.proofs.Common.{take}
use Rattle.std.specs.Prelude.{Contains}
use Rattle.tcc_clocks.specs.Clocks.{AreEntries, IsWith}
use Rattle.tcc_clocks.proofs.rows.row_with.Given as goal

abbrev pub invariant-loop-number : goal.invariant-loop-number
invariant-loop-number l = AreEntries l.side l.graph (IsWith l.side l.graph (Contains (take l.number-index l.numbers))) l.from l.row
