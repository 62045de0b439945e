use Rattle.tcc_lanes.proofs.PriceLemmas.{IsPricing}
use Rattle.tcc_lanes.proofs.pricing.prices_from.Given as goal

abbrev pub invariant-loop-steps : goal.invariant-loop-steps
invariant-loop-steps l =
    IsPricing l.graph l.level l.members l.starts l.begun.items l.steps l.reached.items l.underway.items l.found.items l.table.items
