use Rattle.tcc_reads.specs.History.{count}
use Rattle.tcc_check.specs.private.WeightsFrom.{AreEndsTo, ReadWeighs}
use Rattle.tcc_check.proofs.links_from.read_ends.Given as goal

abbrev pub invariant-loop-start : goal.invariant-loop-start
invariant-loop-start l = AreEndsTo l.start (ReadWeighs l.graph) (count l.graph) l.least l.ends.items
