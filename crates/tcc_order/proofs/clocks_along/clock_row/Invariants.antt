use Rattle.std.proofs.Common.{take}
use Rattle.std.specs.Prelude.{Contains}
use Rattle.tcc_order.specs.private.Lasts.{AreLastsOf}
use Rattle.tcc_clocks.specs.private.Rows.{IsUpTo}
use Rattle.tcc_order.proofs.clocks_along.clock_row.Given as goal

abbrev pub invariant-loop-number : goal.invariant-loop-number
invariant-loop-number l = AreLastsOf l.graph (IsUpTo l.graph (Contains (take l.number-index l.numbers))) l.row.items
