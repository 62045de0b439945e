-- the pass is of the thief's deque, and knows as many starts
use Rattle.crossbeam_deque.specs.Handles.{view, IsPassOf, stealer_deque}
use Rattle.tcc_steal.specs.private.StartQueues.{IsTaker}
use Rattle.tcc_steal.proofs.deque.steal.Given as goal

abbrev pub invariant-loop : goal.invariant-loop
invariant-loop l = IsPassOf (stealer_deque l.thief) l.pass × IsTaker (view l.fn.pass).pushed (view l.pass)
