use Rattle.std.proofs.Common.{ℕ, ◌++◌, List, map, take}
use Rattle.tcc_txn.specs.KeyNumbers.{AreNumbers}
use Rattle.tcc_txn.specs.Transactions.{op_key}
use Rattle.tcc_txn.proofs.key_numbers.number_ops.Given as goal

abbrev pub invariant-loop-op : goal.invariant-loop-op
invariant-loop-op l =
    (done : List (List ℕ)) → AreNumbers l.initial.keys l.initial.numbers.items done
    → AreNumbers l.keys l.numbers.items (done ++ map op_key (take l.op-index l.ops))
