use Rattle.std.proofs.Common.{◌≡◌, ◌<◌, ◌≤◌, ◌+◌, ℕ, length, slice_index}
use Rattle.tcc_graph.specs.Levels.{judged}
use Rattle.tcc_clocks.specs.declared.latest.TheConstants.{WIDE}
use Rattle.tcc_survey.specs.private.Settled.{IsLeastBefore, reading_of}
use Rattle.tcc_survey.proofs.scanning.ReadSweep.settle_each.Given as goal

abbrev pub invariant-loop-index : goal.invariant-loop-index
invariant-loop-index l =
    (length l.found ≡ length l.reads)
    × ((k : ℕ) → k < l.index → IsLeastBefore (judged l.self.block.graph.now l.self.level) (l.self.block.from + WIDE) (reading_of l.reads k) (slice_index l.found k))
    × ((k : ℕ) → l.index ≤ k → k < length l.reads → IsLeastBefore (judged l.self.block.graph.now l.self.level) l.self.block.from (reading_of l.reads k) (slice_index l.found k))
