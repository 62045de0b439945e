use Rattle.tcc_graph.specs.Levels.{judged}
use Rattle.tcc_rules.proofs.links.LinksJudge.judge.Goals as goal

pub returns-clause-one : goal.returns-clause-one
returns-clause-one c most links so_far =
    c.in_ok-judge_known.ensures.one (judged c.args.graph.now c.args.level) most links c.args.link.now c.of.ensures so_far
