-- How sessions are packed in memory. An operation has the number of its key in a table of names, and the operations of a
-- session follow one another.
use Rattle.std.specs.Prelude.{ℕ, ◌≡◌, ◌≤◌, ◌<◌, ◌+◌, if◌then◌else◌, List, [], map, flat_map, length, take, drop, All, slice_index_or, None}
use Rattle.tcc_txn.specs.Transactions.{Transaction, txn_fault}
use Rattle.tcc_txn.specs.declared.op.Op.{Op}
use Rattle.tcc_txn.specs.declared.op.Op.TheVariants.{Get, Put}
use Rattle.tcc_txn.specs.declared.packed.PackedOp.{PackedOp}
use Rattle.tcc_txn.specs.declared.packed.Span.{Span}
use Rattle.tcc_txn.specs.declared.packed.PackedTxns.{PackedTxns}

-- a table of names, each at its number
abbrev pub Names : Type 0
Names = List (List ℕ)

-- the operation that a packed one encodes
abbrev pub op_in : Names → PackedOp → Op
op_in names op =
    let key = slice_index_or names op.key [] in
    if op.is_put then Put key op.value else Get key op.value

-- the transaction whose operations are this span of those of its session
abbrev pub txn_in : Names → List PackedOp → Span → Transaction
txn_in names ops span = record { ops = map (op_in names) (take span.len (drop span.start ops)); committed = span.committed }

-- the transactions of a session
abbrev pub txns_in : Names → PackedTxns → List Transaction
txns_in names txns = map (txn_in names txns.ops.items) txns.spans.items

-- sessions with their transactions
abbrev pub sessions_in : Names → List (List ℕ × PackedTxns) → List (List ℕ × List Transaction)
sessions_in names sessions = map (λ part. (part.0, txns_in names part.1)) sessions

-- the table has a name for the key of each operation
abbrev pub AreNamed : Names → List PackedOp → Type 0
AreNamed names ops = All (λ op. op.key < length names) ops

-- each operation has its key in the table, each span is inside the list of operations, and each makes a transaction
pub record ArePacked (names : Names) (txns : PackedTxns) : Type 0 where
  pub named : AreNamed names txns.ops.items
  pub spanned : All (λ span. span.start + span.len ≤ length txns.ops.items) txns.spans.items
  pub lawful : All (λ span. txn_fault (txn_in names txns.ops.items span).ops ≡ None) txns.spans.items

-- the transactions of each session are packed by the table
abbrev pub AllPacked : Names → List (List ℕ × PackedTxns) → Type 0
AllPacked names sessions = All (λ part. ArePacked names part.1) sessions

-- the packed operations encode these
pub record PacksOps (names : Names) (packed : List PackedOp) (ops : List Op) : Type 0 where
  pub named : AreNamed names packed
  pub same : map (op_in names) packed ≡ ops

-- the numbers of the keys of the operations in a span
abbrev pub numbers_at : List PackedOp → Span → List ℕ
numbers_at ops span = map (λ op. op.key) (take span.len (drop span.start ops))

-- the numbers of the keys of the operations of a session
abbrev pub numbers_of : PackedTxns → List ℕ
numbers_of txns = flat_map (numbers_at txns.ops.items) txns.spans.items
