-- The records of a snapshot, as text.
use Rattle.std.specs.Prelude.{ℕ, Bool, if◌then◌else◌, List, ◌++◌, flat_map, decimal, codes}
use Rattle.tcc_txn.specs.Snapshots.{Sessions}
use Rattle.tcc_txn.specs.Transactions.{Transaction}
use Rattle.tcc_txn.specs.declared.op.Op.{Op}
use Rattle.tcc_txn.specs.declared.op.Op.TheVariants.{Get, Put}
use Rattle.std.specs.FinMap.{entries}

-- the record of an operation
abbrev pub op_text : List ℕ → Op → List ℕ
op_text session (Get key value) = session ++ (codes ",r," ++ (key ++ (codes "," ++ (decimal value ++ codes "\n"))))
op_text session (Put key value) = session ++ (codes ",w," ++ (key ++ (codes "," ++ (decimal value ++ codes "\n"))))

-- the record that ends a transaction
abbrev pub end_text : List ℕ → Bool → List ℕ
end_text session committed = session ++ (if committed then codes ",commit\n" else codes ",abort\n")

-- the records of a transaction
abbrev pub transaction_text : List ℕ → Transaction → List ℕ
transaction_text session t = session ++ (codes ",begin\n" ++ (flat_map (op_text session) t.ops ++ end_text session t.committed))

-- the records of a session
abbrev pub session_text : List ℕ × List Transaction → List ℕ
session_text part = flat_map (transaction_text part.0) part.1

-- the records of a snapshot, session by session
abbrev pub records_text : Sessions → List ℕ
records_text s = flat_map session_text (entries s)
