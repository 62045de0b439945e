use Rattle.std.proofs.Common.{◌≡◌, ◌*◌, length}
use Rattle.tcc_reads.specs.History.{count}
use Rattle.tcc_graph.specs.Levels.{judged}
use Rattle.tcc_clocks.specs.declared.latest.TheConstants.{WIDE}
use Rattle.tcc_survey.specs.private.Settled.{AreSettled}
use Rattle.tcc_survey.proofs.clock_sweep.find_least.Given as goal

abbrev pub invariant-loop-number : goal.invariant-loop-number
invariant-loop-number g l =
    (length l.clocks ≡ count l.graph)
    × (length l.firsts ≡ count l.graph)
    × AreSettled (judged l.graph l.level) l.reads (l.number * WIDE) l.found.items
