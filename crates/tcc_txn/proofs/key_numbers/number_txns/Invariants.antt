use Rattle.std.proofs.Common.{ℕ, ◌++◌, List, take}
use Rattle.tcc_txn.specs.KeyNumbers.{AreNumbers, keys_of}
use Rattle.tcc_txn.proofs.key_numbers.number_txns.Given as goal

abbrev pub invariant-loop-txn : goal.invariant-loop-txn
invariant-loop-txn l =
    (done : List (List ℕ)) → AreNumbers l.initial.keys l.initial.numbers.items done
    → AreNumbers l.keys l.numbers.items (done ++ keys_of (take l.txn-index l.txns))
