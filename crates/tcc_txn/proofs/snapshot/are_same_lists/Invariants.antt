use Rattle.std.proofs.Common.{◌≡◌, ◌<◌, ℕ, slice_get}
use Rattle.tcc_txn.specs.Snapshots.{finished_at}
use Rattle.tcc_txn.proofs.snapshot.are_same_lists.Given as goal

-- the transactions so far are equal
abbrev pub invariant-loop-index : goal.invariant-loop-index
invariant-loop-index g l = (k : ℕ) → k < l.index → slice_get (finished_at l.one l.i) k ≡ slice_get (finished_at l.other l.i) k
