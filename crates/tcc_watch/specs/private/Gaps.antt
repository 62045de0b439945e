-- Reads of values that nobody has written so far.
use Rattle.std.specs.Prelude.{ℕ, ◌<◌, ◌≡◌, ◌≢◌, Bool, true, false, List, ◌∷◌, length, slice_index_or, None}
use Rattle.std.specs.List.{list_any}
use Rattle.tcc_txn.specs.Transactions.{Transaction}
use Rattle.tcc_txn.specs.declared.op.Op.{Op}
use Rattle.tcc_txn.specs.declared.op.Op.TheVariants.{Get}
use Rattle.tcc_reads.specs.Faults.{puts}
use Rattle.tcc_reads.specs.Sources.{visible_write}
use Rattle.tcc_watch.specs.declared.lines.Line.{Line}
use Rattle.tcc_watch.specs.Ledger.{ReadsExternally}
use Rattle.tcc_watch.specs.private.Values.{ValueMap, noted}

-- whether a transaction that waits in the session writes the value at the key
abbrev pub is_written_in : List ℕ → ℕ → Line → Bool
is_written_in x v line = list_any (λ txn. list_any (puts x v) txn.ops) line.waiting.items

-- whether one that waits does
abbrev pub is_coming : List Line → List ℕ → ℕ → Bool
is_coming lines x v = list_any (is_written_in x v) lines

-- the value isn't initial, was not delivered, and doesn't wait
abbrev pub IsNowhere : List Line → ValueMap → List ℕ → ℕ → Type 0
IsNowhere lines values x v = (v ≢ 0) × (noted values x v ≡ None) × (is_coming lines x v ≡ false)

-- the operation after some others reads such a value, and from another transaction
abbrev pub IsGap : List Line → ValueMap → List Op → Op → Type 0
IsGap lines values before op =
    (x : List ℕ) × (v : ℕ) × (op ≡ Get x v) × (visible_write x before ≡ None) × IsNowhere lines values x v

-- one of the operations does
abbrev pub HasGap : List Line → ValueMap → List Op → Type 0
HasGap lines values ops = (x : List ℕ) × (v : ℕ) × ReadsExternally ops x v × IsNowhere lines values x v

-- the first transaction that waits in a session was committed, and one of its operations does
abbrev pub WaitsForNothing : List Line → ValueMap → Line → Type 0
WaitsForNothing lines values line =
    (txn : Transaction) × (rest : List Transaction) × (line.waiting.items ≡ txn ∷ rest) × (txn.committed ≡ true) × HasGap lines values txn.ops

-- so it is in one of the sessions
abbrev pub AreGaps : List Line → ValueMap → Type 0
AreGaps lines values =
    (k : ℕ) × (line : Line) × (k < length lines) × (slice_index_or lines k line ≡ line) × WaitsForNothing lines values line
