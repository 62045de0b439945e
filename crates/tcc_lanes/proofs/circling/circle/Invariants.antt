use Rattle.std.proofs.Common.{◌≡◌, ◌<◌, ◌+◌, ℕ, length, slice_index}
use Rattle.std.specs.Prelude.{AllPairs}
use Rattle.tcc_graph.specs.Levels.{Judged}
use Rattle.tcc_lanes.specs.Picked.{HasAllAmong, IsLowestStart}
use Rattle.tcc_lanes.specs.private.Pricing.{ArePriceRows, HasReturn, IsWayBack}
use Rattle.tcc_lanes.proofs.PickLemmas.{IsOnWay}
use Rattle.tcc_lanes.proofs.circling.circle.Given as goal

abbrev pub invariant-loop-from : goal.invariant-loop-from
invariant-loop-from l = record {
  inside : l.to < length l.rows;
  way : (j : Judged) → ArePriceRows j l.members l.most (length l.members) l.rows → slice_index l.costs.items l.start < l.most
      → IsWayBack j l.members l.start l.costs.items l.to l.circle.items;
  picked : (j : Judged) (n : ℕ) → l.most ≡ n + 1 → ArePriceRows j l.members l.most (length l.members) l.rows → AllPairs (λ u v. u < v) l.members
      → HasReturn j l.members l.most l.start → HasAllAmong j l.members n → IsLowestStart j n (slice_index l.members l.start)
      → IsOnWay j (slice_index l.members l.start) n (slice_index l.members l.to) (slice_index l.costs.items l.to) l.circle.items;
}

abbrev pub decreases-loop-from : goal.decreases-loop-from
decreases-loop-from l = slice_index l.costs.items l.to
