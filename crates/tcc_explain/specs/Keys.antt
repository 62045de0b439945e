-- The keys in a snapshot: names, as in everything that records finish.
use Rattle.std.specs.Prelude.{All}
use Rattle.std.specs.FinMap.{entries}
use Rattle.tcc_txn.specs.Snapshots.{Sessions}
use Rattle.tcc_txn.specs.Transactions.{Transaction, op_key}
use Rattle.tcc_txn.specs.declared.op.Op.{Op}
use Rattle.tcc_cert.specs.Texts.{IsKey}

-- the operation's key is a name
abbrev pub NamesKey : Op → Type 0
NamesKey op = IsKey (op_key op)

abbrev pub NamesKeys : Transaction → Type 0
NamesKeys txn = All NamesKey txn.ops

-- the key of each operation is a name
abbrev pub HasNames : Sessions → Type 0
HasNames s = All (λ named. All NamesKeys named.1) (entries s)
