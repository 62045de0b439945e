use Rattle.std.proofs.Common.{take}
use Rattle.std.specs.Prelude.{Contains}
use Rattle.tcc_order.specs.private.Lasts.{HasLasts}
use Rattle.tcc_order.proofs.clocks_along.clocks.Given as goal

abbrev pub invariant-loop-number : goal.invariant-loop-number
invariant-loop-number l = HasLasts l.graph (Contains (take l.number-index l.order)) l.table.items
