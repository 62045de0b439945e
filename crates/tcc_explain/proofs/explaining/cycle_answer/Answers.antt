use Rattle.std.proofs.Common.{ℕ, ◌≡◌, ◌∙◌, ap, refl, rules}
use Rattle.tcc_graph.specs.Links.{cost}
use Rattle.tcc_explain.proofs.KnownLemmas.{first_cost, first_tables}
use Rattle.tcc_explain.proofs.TableLemmas.{own_level}
use Rattle.tcc_explain.proofs.explaining.cycle_answer.Goals as goal

pub derive-requires : goal.derive-requires
derive-requires g c = (search rules, own_level c.args.graph.now c.args.level c.in_ok-near.near c.in_ok-near.ensures)

pub distance_tables-requires-clause-near : goal.distance_tables-requires-clause-near
distance_tables-requires-clause-near g c = λ κs lives. own_level c.args.graph.now c.args.level c.in_ok-near.near c.in_ok-near.ensures

pub distance_tables-requires-clause-cost : goal.distance_tables-requires-clause-cost
distance_tables-requires-clause-cost g c = λ κs lives.
    let costs : c.in_ok-cost.cost ≡ cost c.args.links.items = c.in_ok-cost.ensures.steps ∙ ap cost c.deref.ensures.value in
    first_cost c.args.graph.now c.args.level c.requires.cycle.0 c.args.links.items c.requires.cycle.1 c.in_ok-cost.cost costs
    c.in_ok-near.near.level c.in_ok-near.ensures.level

pub returns : goal.returns
returns g c =
    let costs : c.in_ok-cost.cost ≡ cost c.args.links.items = c.in_ok-cost.ensures.steps ∙ ap cost c.deref.ensures.value in
    let tables =
    first_tables c.args.graph.now c.args.level c.requires.cycle.0 c.args.links.items c.requires.cycle.1 c.in_ok-cost.cost costs
    c.in_ok-near.near.level c.in_ok-near.ensures.level c.in_ok-tables.tables c.in_ok-tables.ensures in
    rw (c.new.ensures, c.new-links.ensures) (
      (c.requires.cycle.0, c.requires.cycle.1),
      refl,
      c.requires.labels,
      tables.0,
      tables.1,
    )
