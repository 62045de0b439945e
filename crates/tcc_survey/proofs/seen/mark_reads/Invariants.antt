use Rattle.std.proofs.Common.{◌≡◌, ◌<◌, ◌≤◌, ℕ, length}
use Rattle.tcc_survey.specs.private.Seen.{AreMarks}
use Rattle.tcc_survey.specs.private.Settled.{reading_of}
use Rattle.tcc_survey.proofs.seen.mark_reads.Given as goal

abbrev pub invariant-loop-index : goal.invariant-loop-index
invariant-loop-index l =
    (length l.marks ≡ length l.fn.marks)
    × AreMarks l.owners l.reads l.index l.marks
    × ((k : ℕ) → k < l.index → (reading_of l.reads k).reader ≤ l.c)
