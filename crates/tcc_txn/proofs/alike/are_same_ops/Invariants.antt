use Rattle.std.proofs.Common.{◌≡◌, ◌<◌, ℕ, slice_get}
use Rattle.tcc_txn.proofs.alike.are_same_ops.Given as goal

-- the operations so far are equal
abbrev pub invariant-loop-index : goal.invariant-loop-index
invariant-loop-index l = (k : ℕ) → k < l.index → slice_get l.one.ops k ≡ slice_get l.other.ops k
