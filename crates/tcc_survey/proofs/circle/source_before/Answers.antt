use Rattle.tcc_survey.proofs.CircleLemmas.{one_held}
use Rattle.tcc_survey.proofs.circle.source_before.Goals as goal

pub returns-in-None : goal.returns-in-None
returns-in-None c =
    absurd (one_held c.args.graph.now c.args.placed.now c.args.c c.requires.stuck c.requires.below c.requires.left c.requires.known c.in-None.ensures)
