use Rattle.std.proofs.Common.{◌≡◌, ◌<◌, ◌≤◌, ◌+◌, ℕ, length}
use Rattle.tcc_graph.specs.Levels.{judged}
use Rattle.tcc_clocks.specs.declared.latest.TheConstants.{WIDE}
use Rattle.tcc_survey.specs.private.Called.{IsCalledBefore, called_at}
use Rattle.tcc_survey.specs.private.Seen.{AreMarks}
use Rattle.tcc_survey.specs.private.Settled.{reading_of}
use Rattle.tcc_survey.proofs.calling.CallingSweep.call_each.Given as goal

abbrev pub invariant-loop-index : goal.invariant-loop-index
invariant-loop-index l =
    (length l.marks ≡ length l.fn.marks)
    × (l.marked ≤ length l.reads)
    × AreMarks l.self.block.owners.now l.reads l.marked l.marks
    × ((k : ℕ) → k < l.marked → (i : ℕ) → l.index ≤ i → i < length l.reads → (reading_of l.reads k).reader ≤ (reading_of l.reads i).reader)
    × (length l.called ≡ length l.reads)
    × ((k : ℕ) → k < l.index → IsCalledBefore (judged l.self.block.graph.now l.self.level) (l.self.block.from + WIDE) (reading_of l.reads k) (called_at l.called k))
    × ((k : ℕ) → l.index ≤ k → k < length l.reads → IsCalledBefore (judged l.self.block.graph.now l.self.level) l.self.block.from (reading_of l.reads k) (called_at l.called k))
