use Rattle.std.proofs.Common.{◌≡◌, take, length, sum_by}
use Rattle.tcc_txn.proofs.snapshot.transactions_in.Given as goal

-- the total counts the parts so far
abbrev pub invariant-loop-part : goal.invariant-loop-part
invariant-loop-part l = l.total ≡ sum_by (λ part. length part.1.items) (take l.part-index l.parts)
