-- the starts so far were pushed, and there is room for all
use Rattle.std.proofs.Common.{◌≡◌, ◌≤◌, true, []}
use Rattle.crossbeam_deque.specs.Handles.{worker_flavor, worker_view, worker_index, worker_capacity}
use Rattle.tcc_steal.proofs.deque.fill.Given as goal

abbrev pub invariant-loop-start : goal.invariant-loop-start
invariant-loop-start l =
    (worker_flavor l.owner ≡ 0)
    × (worker_view l.owner ≡ record { may_push = true; live = true; pushed = l.start; starts = [] })
    × (worker_index l.owner ≡ l.start)
    × (l.count ≤ worker_capacity l.owner)
