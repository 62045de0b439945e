use Rattle.std.proofs.Common.{◌≡◌, take}
use Rattle.tcc_lanes.specs.private.Stretches.{prices_in}
use Rattle.tcc_lanes.proofs.stretches.PriceRow.prices.Given as goal

abbrev pub invariant-loop-stretch : goal.invariant-loop-stretch
invariant-loop-stretch l = l.prices.items ≡ prices_in (take l.stretch-index l.stretch-items)
