-- the jobs so far
use Rattle.std.proofs.Common.{◌≡◌, ℕ, length}
use Rattle.crossbeam_deque.specs.Handles.{worker_deque, worker_flavor, worker_view}
use Rattle.tcc_derive.specs.Prices.{Tables}
use Rattle.tcc_steal.specs.private.StartQueues.{IsTaker}
use Rattle.tcc_steal.specs.private.Working.{IsSeat, AreThieves, AreThiefInits, AreThiefInitsOf}
use Rattle.tcc_steal.proofs.fork_join.jobs.Given as goal

abbrev pub invariant-loop-number : goal.invariant-loop-number
invariant-loop-number g l =
    (l.seat ≡ l.fn.seat)
    × (worker_deque l.owner ≡ worker_deque l.fn.owner)
    × (worker_flavor l.owner ≡ worker_flavor l.fn.owner)
    × ((count : ℕ) → IsTaker count (worker_view l.fn.owner) → IsTaker count (worker_view l.owner))
    × ((t : Tables) → IsSeat t l.bound l.fn.seat → IsTaker (length t.prices) (worker_view l.fn.owner)
    → AreThiefInits t l.bound (worker_deque l.fn.owner) l.jobs.items)
    × ((workers : ℕ) → AreThieves workers l.thieves → AreThiefInitsOf workers l.jobs.items)
