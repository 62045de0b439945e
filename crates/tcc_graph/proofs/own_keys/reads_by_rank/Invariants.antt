use Rattle.std.proofs.Common.{ℕ, ◌≡◌, map, take}
use Rattle.tcc_graph.specs.private.Marks.{rank_at}
use Rattle.tcc_graph.proofs.own_keys.reads_by_rank.Given as goal

abbrev pub invariant-loop-index : goal.invariant-loop-index
invariant-loop-index l = l.found.items ≡ map {B = ℕ × ℕ} (λ read. (rank_at l.ranks read.0, read.1)) (take l.index-index l.reads)
