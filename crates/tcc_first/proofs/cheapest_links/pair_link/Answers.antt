use Rattle.std.proofs.Common.{sym, subst}
use Rattle.tcc_graph.specs.Levels.{judged}
use Rattle.tcc_graph.specs.declared.link.Link.{Link}
use Rattle.tcc_first.specs.private.Picks.{IsFirstOfCost}
use Rattle.tcc_first.proofs.CheapestLemmas.{first_pair}
use Rattle.tcc_first.proofs.cheapest_links.pair_link.Goals as goal

pub returns : goal.returns
returns c = λ level.
    subst (λ (l : Link). IsFirstOfCost (judged c.args.graph.now level) c.args.from c.args.to 1 l) (sym c.of.ensures.value)
    (first_pair (judged c.args.graph.now level) c.args.from c.args.to c.first_step.result c.first_step.ensures)
