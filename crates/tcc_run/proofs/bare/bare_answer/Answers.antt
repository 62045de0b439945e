use Rattle.std.proofs.Common.{subst, sym}
use Rattle.std.proofs.lemmas.Result.{IfOk-weaker}
use Rattle.tcc_graph.specs.Levels.{judged}
use Rattle.tcc_answer.specs.declared.answer.Answer.{Answer}
use Rattle.tcc_explain.specs.Explained.{IsBareAnswer}
use Rattle.tcc_run.proofs.BareAnswers.{cycle_bare, order_bare}
use Rattle.tcc_run.proofs.bare.bare_answer.Goals as goal

pub returns-in-Order : goal.returns-in-Order
returns-in-Order c = λ is.
    let j = judged c.args.graph.now c.args.level in
    let first = rw c.in-Order.is at is in
    subst (IsBareAnswer j) (sym (c.order_answer.ensures c.in_ok-labels.ensures))
    (order_bare c.args.graph.now c.args.level c.in-Order.order.items ((c.order_or_cycle.ensures j).0 (c.in-Order.order.items, first.commit)) first)

pub returns-in-Cycle : goal.returns-in-Cycle
returns-in-Cycle c = λ is.
    let j = judged c.args.graph.now c.args.level in
    let first = rw c.in-Cycle.is at is in
    IfOk-weaker c.cycle_answer.result _ _
    (λ (a : Answer) same. subst (IsBareAnswer j) (sym same) (cycle_bare c.args.graph.now c.args.level first.0 c.in-Cycle.links.items first.1))
    (c.cycle_answer.ensures c.args.graph.now c.in_ok-labels.ensures)
