-- no member before this one costs exactly that much less
use Rattle.std.proofs.Common.{◌≡◌, ◌<◌, ◌+◌, ℕ, length, slice_index}
use Rattle.tcc_lanes.specs.private.Pricing.{price_of}
use Rattle.tcc_lanes.proofs.circling.before.Given as goal

abbrev pub invariant-loop-from : goal.invariant-loop-from
invariant-loop-from l = (u : ℕ) → u < l.from → u < length l.rows → slice_index l.costs u + price_of l.rows u l.to ≡ l.cost → ⊥
