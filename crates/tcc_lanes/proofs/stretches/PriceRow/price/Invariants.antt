use Rattle.tcc_lanes.proofs.StretchLemmas.{IsLeft}
use Rattle.tcc_lanes.proofs.stretches.PriceRow.price.Given as goal

abbrev pub invariant-loop-stretch : goal.invariant-loop-stretch
invariant-loop-stretch l = IsLeft l.self l.column l.stretch-items l.stretch-index l.left
