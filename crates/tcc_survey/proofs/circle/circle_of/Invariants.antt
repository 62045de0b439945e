use Rattle.std.proofs.Common.{◌-◌, length}
use Rattle.tcc_reads.specs.History.{count}
use Rattle.tcc_survey.specs.private.Circling.{IsTrail}
use Rattle.tcc_survey.proofs.circle.circle_of.Given as goal

abbrev pub invariant-loop-seen : goal.invariant-loop-seen
invariant-loop-seen l = IsTrail l.graph l.placed l.seen.items l.trail.items l.at

abbrev pub decreases-loop-seen : goal.decreases-loop-seen
decreases-loop-seen l = count l.graph - length l.trail.items
