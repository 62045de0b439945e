-- How the seats of the sessions are stored in memory, and how one of them changes.
use Rattle.std.specs.Prelude.{ℕ, zero, suc, ◌≡◌, Bool, false, if◌then◌else◌, List, [], ◌∷◌, map, Option, Some, Result, is_some}
use Rattle.tcc_txn.specs.Bytes.{same}
use Rattle.tcc_txn.specs.Symbols.{is_symbol}
use Rattle.tcc_txn.specs.declared.op.Op.{Op}
use Rattle.tcc_rows.specs.Seats.{Seats, seat_at}
use Rattle.tcc_rows.specs.private.Drafts.{AddsOp}
use Rattle.tcc_rows.specs.declared.fault.RowFaultKind.{RowFaultKind}

-- each name is in the list once
abbrev pub AreOnce : List (List ℕ) → Type 0
AreOnce [] = Unit {0}
AreOnce (name ∷ names) = (is_symbol name names ≡ false) × AreOnce names

-- the names are those of the sessions that have a seat, each once
pub record AreNumbered (names : List (List ℕ)) (seats : Seats) : Type 0 where
  pub each : names ≡ map (λ seat. seat.0) seats
  pub once : AreOnce names

-- the session's seat is at the number
abbrev pub IsSeat : Seats → List ℕ → ℕ → Type 0
IsSeat [] session n = ⊥
IsSeat (seat ∷ seats) session zero = seat.0 ≡ session
IsSeat (seat ∷ seats) session (suc n) = IsSeat seats session n

-- the session has this seat now, and each other session keeps its own
abbrev pub PutsSeat : Seats → List ℕ → Option (List Op) → Seats → Type 0
PutsSeat old session begun new = (name : List ℕ) → seat_at new name ≡ (if same session name then Some begun else seat_at old name)

-- the session has a seat, and has begun a transaction if this is true
abbrev pub IsBegunAt : Seats → List ℕ → Bool → Type 0
IsBegunAt seats session is = (begun : Option (List Op)) × (seat_at seats session ≡ Some begun) × (is ≡ is_some begun)

-- the operation joins those of the session's transaction, or is refused
abbrev pub PutsOp : {U : Type 0} → Seats → List ℕ → Op → Result U RowFaultKind → Seats → Type 0
PutsOp old session op result new = (begun : Option (List Op)) × (after : Option (List Op)) × (seat_at old session ≡ Some begun)
    × AddsOp op begun result after × PutsSeat old session after new
