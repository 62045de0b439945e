use Rattle.std.proofs.Common.{◌≡◌, ◌<◌, ℕ, slice_get}
use Rattle.std.specs.FinMap.{entries}
use Rattle.tcc_txn.proofs.snapshot.SnapshotWithin.is_same.Given as goal

-- the sessions so far are equal
abbrev pub invariant-loop-i : goal.invariant-loop-i
invariant-loop-i g l = (k : ℕ) → k < l.i → slice_get (entries l.self) k ≡ slice_get (entries l.other) k
