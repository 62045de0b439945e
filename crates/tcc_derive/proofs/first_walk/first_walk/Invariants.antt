use Rattle.std.proofs.Common.{◌<◌, ◌≡◌, ◌-◌, length}
use Rattle.tcc_reads.specs.History.{count}
use Rattle.tcc_derive.specs.private.LeadingBack.{IsTakenBack, IsLeft}
use Rattle.tcc_derive.proofs.first_walk.first_walk.Given as goal
use Rattle.tcc_graph.specs.Levels.{judged}

abbrev pub invariant-loop-done : goal.invariant-loop-done
invariant-loop-done l =
    IsTakenBack l.graph l.b l.c l.total l.end l.taken.items
    × (length l.taken.items ≡ l.done)
    × IsLeft (judged l.graph l.near.level) l.b l.end (l.total - l.done)
    × (l.end < count l.graph)
