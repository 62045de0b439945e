use Rattle.std.proofs.Common.{◌≡◌, ◌*◌, length}
use Rattle.tcc_reads.specs.History.{count}
use Rattle.tcc_graph.specs.Levels.{judged}
use Rattle.tcc_clocks.specs.declared.latest.TheConstants.{WIDE}
use Rattle.tcc_survey.specs.private.Called.{AreCalledBefore}
use Rattle.tcc_survey.proofs.calling.call_blocks.Given as goal

abbrev pub invariant-loop-number : goal.invariant-loop-number
invariant-loop-number g l =
    (length l.firsts ≡ count l.graph) × AreCalledBefore (judged l.graph l.level) l.reads (l.number * WIDE) l.called
