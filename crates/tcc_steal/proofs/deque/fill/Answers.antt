use Rattle.std.proofs.Common.{sym, ap}
use Rattle.tcc_steal.specs.declared.deque_view.PassView.{PassView}
use Rattle.tcc_steal.proofs.StartQueueLemmas.{pushes}
use Rattle.tcc_steal.proofs.deque.fill.Goals as goal

pub push_as-requires-clause-pushes : goal.push_as-requires-clause-pushes
push_as-requires-clause-pushes c =
    let is = c.loop-start.invariant.1 in
    pushes _ _ _ (ap (λ (v : PassView). v.may_push) is) (ap (λ (v : PassView). v.live) is) (sym (ap (λ (v : PassView). v.pushed) is))
