-- Operations and transactions.
use Rattle.std.specs.Prelude.{ℕ, ◌+◌, Bool, false, ◌==◌, nat_lt, if◌then◌else◌, List, length, Option, None, Some, position}
use Rattle.std.specs.Option.{option_map_or}
use Rattle.tcc_txn.specs.declared.limits.TheConstants.{MAX_OPERATIONS}
use Rattle.tcc_txn.specs.declared.op.Op.{Op}
use Rattle.tcc_txn.specs.declared.op.Op.TheVariants.{Get, Put}
use Rattle.tcc_txn.specs.declared.txn.TxnFault.{TxnFault}
use Rattle.tcc_txn.specs.declared.txn.TxnFault.TheVariants.{WriteOfZero, TooManyOps}

-- what a session did between a begin and its end, and whether it was committed
pub record Transaction : Type 0 where
  pub ops : List Op
  pub committed : Bool

-- the key that the operation reads or writes
abbrev pub op_key : Op → List ℕ
op_key (Get key value) = key
op_key (Put key value) = key

-- the value that it reads or writes there
abbrev pub op_value : Op → ℕ
op_value (Get key value) = value
op_value (Put key value) = value

-- the operation writes the initial value
abbrev pub writes_zero : Op → Bool
writes_zero (Get key value) = false
writes_zero (Put key value) = value == 0

-- why the operations make no transaction: the one at a position, counted from 1, writes 0, or there are more than
-- `MAX_OPERATIONS`
abbrev pub txn_fault : List Op → Option TxnFault
txn_fault ops =
    option_map_or (λ i. Some (WriteOfZero (i + 1))) (position writes_zero ops) (if nat_lt MAX_OPERATIONS (length ops) then Some TooManyOps else None)
