use Rattle.std.proofs.Common.{◌≡◌, ◌<◌, ℕ, List, length, get_or, slice_index}
use Rattle.tcc_near.specs.private.Breadth.{IsPairsFrom}
use Rattle.tcc_near.proofs.adjacency.readers_apart.Given as goal

abbrev pub invariant-loop-from : goal.invariant-loop-from
invariant-loop-from l =
    (length l.readers.items ≡ l.from)
    × ((u : ℕ) (d : List ℕ) → u < l.from → IsPairsFrom l.graph u (slice_index l.ends u) (get_or l.readers.items u d))
