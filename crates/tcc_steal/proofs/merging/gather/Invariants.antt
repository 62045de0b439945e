-- the shares that are left, and the slots of those that were taken in
use Rattle.std.proofs.Common.{◌≡◌, ℕ, length}
use Rattle.tcc_steal.specs.private.Working.{IsSeat, AreShares, AreKept}
use Rattle.tcc_steal.proofs.merging.gather.Given as goal

abbrev pub invariant-loop-share : goal.invariant-loop-share
invariant-loop-share l =
    IsSeat l.prices l.bound l.seat
    × ((workers : ℕ) → AreShares l.prices l.bound workers l.fn.shares.items
    → AreShares l.prices l.bound workers l.shares.items × AreKept l.prices workers l.seat.known l.slots.items)
    × (length l.slots.items ≡ length l.prices.prices)

abbrev pub decreases-loop-share : goal.decreases-loop-share
decreases-loop-share l = length l.shares.items
