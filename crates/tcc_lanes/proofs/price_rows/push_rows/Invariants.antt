use Rattle.tcc_reads.specs.History.{History}
use Rattle.tcc_lanes.specs.private.Pricing.{ArePairsFrom, AreRowsOn}
use Rattle.tcc_lanes.proofs.price_rows.push_rows.Given as goal

abbrev pub invariant-loop-lane : goal.invariant-loop-lane
invariant-loop-lane l = (h : History) → ArePairsFrom h l.starts l.pairs → AreRowsOn h l.members l.prices.table.items l.starts l.lane l.initial.rows.items l.rows.items
