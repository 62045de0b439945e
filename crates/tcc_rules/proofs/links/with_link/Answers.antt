use Rattle.tcc_graph.specs.Levels.{judged}
use Rattle.tcc_rules.proofs.links.with_link.Goals as goal

pub returns : goal.returns
returns c least i links = c.with_known.ensures (judged c.args.graph.now c.args.level) least i links c.args.link.now c.of.ensures
