use Rattle.tcc_lanes.proofs.MarkLemmas.{marked_at}
use Rattle.tcc_lanes.proofs.marking.mark_at.Goals as goal

pub returns-clause-each : goal.returns-clause-each
returns-clause-each c = λ v i l m. marked_at c.args.marks.now c.args.index c.args.lane c.with_lane.result c.requires.inside c.with_lane.ensures v i m
