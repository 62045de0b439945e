use Rattle.std.proofs.Common.{◌<◌}
use Rattle.tcc_reads.specs.History.{count}
use Rattle.tcc_graph.specs.Levels.{judged}
use Rattle.tcc_graph.specs.declared.level.Level.{Level}
use Rattle.tcc_first.proofs.Picking.{IsUnderWay}
use Rattle.tcc_first.proofs.short.links_from.Given as goal

abbrev pub invariant-loop-left : goal.invariant-loop-left
invariant-loop-left l =
    (l.end < count l.graph) × ((level : Level) → IsUnderWay (judged l.graph level) l.start l.cost l.end l.left l.picked.items)

abbrev pub decreases-loop-left : goal.decreases-loop-left
decreases-loop-left l = l.left
