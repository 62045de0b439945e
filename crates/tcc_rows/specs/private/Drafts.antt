-- The operations of a transaction that is not finished.
use Rattle.std.specs.Prelude.{◌≡◌, ◌≤◌, ◌<◌, ◌⊎◌, List, [], ◌∷◌, ◌++◌, length, Option, None, Some, Result, Ok, Err}
use Rattle.tcc_txn.specs.declared.limits.TheConstants.{MAX_OPERATIONS}
use Rattle.tcc_txn.specs.declared.op.Op.{Op}
use Rattle.tcc_rows.specs.declared.fault.RowFaultKind.{RowFaultKind}
use Rattle.tcc_rows.specs.declared.fault.RowFaultKind.TheVariants as kind

-- the operation joins those of a transaction that is begun and has room for it, or is refused
abbrev pub AddsOp : {U : Type 0} → Op → Option (List Op) → Result U RowFaultKind → Option (List Op) → Type 0
AddsOp op None (Ok done) new = ⊥
AddsOp op (Some ops) (Ok done) new = (length ops < MAX_OPERATIONS) × (new ≡ Some (ops ++ op ∷ []))
AddsOp op None (Err k) new = k ≡ kind.NotBegun
AddsOp op (Some ops) (Err k) new = ((k ≡ kind.TooManyOps) × (MAX_OPERATIONS ≤ length ops)) ⊎ (k ≡ kind.NoMemory)
