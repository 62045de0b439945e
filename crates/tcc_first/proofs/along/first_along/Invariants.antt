use Rattle.std.proofs.Common.{◌<◌, ℕ, reverse, slice_index, take}
use Rattle.tcc_reads.specs.History.{count}
use Rattle.tcc_graph.specs.Levels.{judged}
use Rattle.tcc_lanes.specs.Picked.{ArePicked}
use Rattle.tcc_first.proofs.Picking.{IsUnderWay}
use Rattle.tcc_first.proofs.along.first_along.Given as goal

abbrev pub invariant-loop-left : goal.invariant-loop-left
invariant-loop-left l =
    (l.end < count l.graph)
    × ((n : ℕ) × IsUnderWay (judged l.graph l.level) (slice_index l.circle 0) l.steps l.end n l.picked.items
    × ArePicked (judged l.graph l.level) (slice_index l.circle 0) l.end n (reverse (take l.left l.circle)))
