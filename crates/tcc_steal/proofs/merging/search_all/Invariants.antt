-- the searches of the starts so far, and the slots that are left
use Rattle.std.proofs.Common.{◌≡◌, ◌<◌, ℕ, length}
use Rattle.tcc_steal.specs.private.Working.{IsWorker, AreKept, AreSearches}
use Rattle.tcc_steal.proofs.merging.search_all.Given as goal

abbrev pub invariant-loop-start : goal.invariant-loop-start
invariant-loop-start g l =
    IsWorker l.prices l.bound l.worker
    × (l.worker.number ≡ l.fn.worker.number)
    × (length l.slots.items ≡ length l.prices.prices)
    × (length l.searches.items ≡ l.start)
    × ((workers : ℕ) → l.fn.worker.number < workers → AreKept l.prices workers l.fn.worker.seat.known l.fn.slots.items
    → AreKept l.prices workers l.worker.seat.known l.slots.items × AreSearches l.prices workers l.worker.seat.known 0 l.searches.items)
