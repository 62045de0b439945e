use Rattle.std.proofs.Common.{◌≡◌, length, take}
use Rattle.tcc_txn.proofs.alike.are_same.Given as goal

-- the lists have the same length, and are equal so far
abbrev pub invariant-loop-index : goal.invariant-loop-index
invariant-loop-index g l = (length l.some ≡ length l.others) × (take l.index l.some ≡ take l.index l.others)
