-- The forms in which a snapshot holds a transaction.
use Rattle.std.specs.Prelude.{◌≡◌, map, None}
use Rattle.tcc_txn.specs.Transactions.{Transaction, txn_fault}
use Rattle.tcc_txn.specs.private.Packing.{AreNamed, op_in}
use Rattle.tcc_txn.specs.declared.recorded.TxnStorage.{TxnStorage}
use Rattle.tcc_txn.specs.declared.recorded.TxnStorage.TheVariants.{Plain, Packed}

-- the transaction of a form
abbrev pub transaction_of : TxnStorage → Transaction
transaction_of (Plain txn) = txn.now
transaction_of (Packed keys ops committed) = record { ops = map (op_in keys.now) ops.now; committed = committed }

-- the operations of a form have names and make a transaction
abbrev pub IsLawfulForm : TxnStorage → Type 0
IsLawfulForm (Plain txn) = Unit {0}
IsLawfulForm (Packed keys ops committed) = AreNamed keys.now ops.now × (txn_fault (map (op_in keys.now) ops.now) ≡ None)
