use Rattle.tcc_graph.specs.Orders.{IsNumbering}
use Rattle.tcc_reads.specs.History.{count}
use Rattle.tcc_clocks.specs.Clocks.{LeadsOnward}
use Rattle.tcc_survey.proofs.FindLemmas.{acyclic}
use Rattle.tcc_survey.proofs.surveying.survey_watched.Goals as goal

pub contradicted_along-requires-clause-onward : goal.contradicted_along-requires-clause-onward
contradicted_along-requires-clause-onward g c =
    let w : IsNumbering (count c.args.graph.now) c.in-Order.order.items × LeadsOnward c.args.graph.now c.in-Order.order.items
    = rw c.in-Order.is at c.in_ok-order.ensures in
    rw c.deref-2.ensures.value w.1

pub returns : goal.returns
returns g c =
    let w : IsNumbering (count c.args.graph.now) c.in-Order.order.items × LeadsOnward c.args.graph.now c.in-Order.order.items
    = rw c.in-Order.is at c.in_ok-order.ensures in
    (acyclic c.args.graph.now c.in-Order.order.items w.0 w.1, c.in_ok-list.ensures)
