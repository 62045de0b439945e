use Rattle.std.proofs.Common.{sym, subst}
use Rattle.tcc_reads.specs.History.{History}
use Rattle.tcc_graph.specs.Levels.{judged}
use Rattle.tcc_graph.specs.Orders.{IsFirstOrder}
use Rattle.tcc_graph.specs.Routes.{HasCycle}
use Rattle.tcc_order.proofs.OrderOrCycle.{no_cycle}
use Rattle.tcc_watch.proofs.verdict.judge.Goals as goal

pub returns-in-Some : goal.returns-in-Some
returns-in-Some c s clean is =
    let o : IsFirstOrder (judged c.args.graph.now c.args.level) c.in-Some._first.items = rw c.in-Some.is at c.in_ok-_first.ensures in
    (clean, λ cycle. no_cycle (judged c.args.graph.now c.args.level) c.in-Some._first.items o.commit (subst (λ (z : History). HasCycle (judged z c.args.level)) (sym is) cycle))

pub returns-in-None : goal.returns-in-None
returns-in-None c s clean is =
    let w : HasCycle (judged c.args.graph.now c.args.level) = rw c.in-None.is at c.in_ok-_first.ensures in
    (clean, subst (λ (z : History). HasCycle (judged z c.args.level)) is w)
