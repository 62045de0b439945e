use Rattle.tcc_lanes.proofs.WordLemmas.{one_more}
use Rattle.tcc_lanes.proofs.words.with_lane.Goals as goal

pub returns : goal.returns
returns c = λ i l. one_more c.args.word c.args.lane i c.requires l
