-- Sessions, each with the operations of the transaction that it has begun, if it has.
use Rattle.std.specs.Prelude.{ℕ, List, Option}
use Rattle.std.specs.Map.{lookup}
use Rattle.tcc_txn.specs.Bytes.{same}
use Rattle.tcc_txn.specs.declared.op.Op.{Op}

-- some sessions, each with its seat
abbrev pub Seats : Type 0
Seats = List (List ℕ × Option (List Op))

-- the seat of a session, if it is one of these
abbrev pub seat_at : Seats → List ℕ → Option (Option (List Op))
seat_at seats name = lookup (same name) seats
