use Rattle.std.proofs.Common.{◌≡◌, ◌≤◌, take, length, sum_by}
use Rattle.tcc_txn.proofs.snapshot.has_too_many_transactions.Given as goal

-- so far there are not too many
abbrev pub invariant-loop-part : goal.invariant-loop-part
invariant-loop-part l = record {
  counted : l.total ≡ sum_by (λ part. length part.1.items) (take l.part-index l.parts);
  few : l.total ≤ l.most;
}
