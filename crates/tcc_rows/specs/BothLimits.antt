-- The faults that records have under the small limits alone, where the large ones may have room.
use Rattle.std.specs.Prelude.{ℕ, ◌≡◌, ◌≤◌, Bool, true, false, List, length, Option, None, Some}
use Rattle.tcc_txn.specs.declared.limits.TheConstants.{MAX_INPUT_BYTES}
use Rattle.tcc_rows.specs.Answers.{answers_of}
use Rattle.tcc_rows.specs.declared.fault.RowFault.{RowFault}
use Rattle.tcc_rows.specs.declared.fault.RowFaultKind.{RowFaultKind}
use Rattle.tcc_rows.specs.declared.fault.RowFaultKind.TheVariants as kind

-- too many sessions, transactions, keys or seals: the large limits have more room for these, and for nothing else that records
-- show
abbrev pub is_beyond_small : RowFaultKind → Bool
is_beyond_small kind.TooManySessions = true
is_beyond_small kind.TooManyTransactions = true
is_beyond_small kind.TooManyKeys = true
is_beyond_small kind.TooManySeals = true
is_beyond_small _ = false

-- the answers end with such a fault
abbrev pub ends_beyond_small : Option RowFault → Bool
ends_beyond_small None = false
ends_beyond_small (Some fault) = is_beyond_small fault.kind

-- the text has at most as many bytes as the small limit allows, and its answers end with no such fault
abbrev pub KeepsSmall : List ℕ → Type 0
KeepsSmall text = (length text ≤ MAX_INPUT_BYTES) × (ends_beyond_small (answers_of text).fault ≡ false)
