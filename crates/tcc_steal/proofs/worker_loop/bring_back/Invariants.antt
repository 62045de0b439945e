-- the searches so far have ended
use Rattle.std.proofs.Common.{◌≡◌, ◌<◌, ℕ, All, length}
use Rattle.tcc_steal.specs.private.Working.{IsWorkSource, IsWorker, IsSearched, AreBy}
use Rattle.tcc_steal.proofs.worker_loop.bring_back.Given as goal

abbrev pub invariant-loop : goal.invariant-loop
invariant-loop g l =
    IsWorkSource (length l.prices.prices) l.hand
    × IsWorker l.prices l.bound l.worker
    × (l.worker.number ≡ l.fn.worker.number)
    × ((workers : ℕ) → l.fn.worker.number < workers → All (IsSearched l.prices workers l.worker.seat.known) l.searches.items)
    × AreBy l.fn.worker.number l.searches.items
