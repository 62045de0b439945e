-- The result of a line after those before it, as the private stages have it.
use Rattle.std.specs.Prelude.{ℕ, ◌≡◌, ◌≤◌, ◌<◌, ◌⊎◌, true, false, List, ◌∷◌, length, Option, None, Some, Result, Ok, Err}
use Rattle.std.specs.Option.{option_map_or}
use Rattle.tcc_txn.specs.Limits.{most_keys, most_sessions}
use Rattle.tcc_rows.specs.Lines.{Record, line_of}
use Rattle.tcc_rows.specs.Past.{fault_within, is_begun, item_of, lesser, sessions, with_name}
use Rattle.tcc_rows.specs.SessionStates.{HoldsNames, IsAfter}
use Rattle.tcc_rows.specs.declared.rows.Item.{Item}
use Rattle.tcc_rows.specs.declared.fault.RowFaultKind.{RowFaultKind}
use Rattle.tcc_rows.specs.declared.fault.RowFaultKind.TheVariants as kind
use Rattle.tcc_rows.specs.Line.{Line}
use Rattle.tcc_rows.specs.Line as line
use Rattle.tcc_rows.specs.declared.rows.progress.RowProgress.{RowProgress}
use Rattle.tcc_txn.specs.declared.limits.Limits.{Limits}
use Rattle.tcc_txn.specs.declared.op.Op.{Op}

-- the least of the sessions so far that have begun a transaction, and one more
abbrev pub lower : Option (List ℕ) → List ℕ × Option (List Op) → Option (List ℕ)
lower least (name, None) = least
lower least (name, Some ops) = Some (option_map_or (λ other. lesser other name) least name)

-- the session can begin a transaction after these lines, or it has begun one, or it is one session too many
abbrev pub MayBegin : {U : Type 0} → Limits → List Line → List ℕ → Result U RowFaultKind → Type 0
MayBegin limits past name (Ok done) = (is_begun name past ≡ false) × (length (sessions (line.Begin name ∷ past)) ≤ most_sessions limits)
MayBegin limits past name (Err k) =
    ((k ≡ kind.AlreadyBegun) × (is_begun name past ≡ true))
    ⊎ ((k ≡ kind.TooManySessions) × (is_begun name past ≡ false) × (most_sessions limits < length (sessions (line.Begin name ∷ past))))

-- one more name is held, or it is one too many
abbrev pub NotesName : {U : Type 0} → Limits → List (List ℕ) → List ℕ → Result U RowFaultKind → List (List ℕ) → Type 0
NotesName limits names name (Ok done) new = HoldsNames limits (with_name name names) new
NotesName limits names name (Err k) new = ((k ≡ kind.TooManyKeys) × (most_keys limits < length (with_name name names))) ⊎ (k ≡ kind.NoMemory)

-- the line is lawful after the others and is one of them now, or it has this kind of fault
abbrev pub PassesLine : {U : Type 0} → Limits → List Line → Line → Result U RowFaultKind → RowProgress → Type 0
PassesLine limits past last (Ok done) new = (fault_within limits past last ≡ None) × IsAfter limits (last ∷ past) new
PassesLine limits past last (Err k) new = (fault_within limits past last ≡ Some k) ⊎ (k ≡ kind.NoMemory)

-- the record is an operation, is lawful after the others and is one of them now, or it has this kind of fault
abbrev pub PassesOperation : {U : Type 0} → Limits → List Line → Record → Result U RowFaultKind → RowProgress → Type 0
PassesOperation limits past fields (Ok done) new =
    (session : List ℕ) × (op : Op) × (line_of fields ≡ Ok (line.Operation session op))
    × (fault_within limits past (line.Operation session op) ≡ None) × IsAfter limits (line.Operation session op ∷ past) new
PassesOperation limits past fields (Err k) new =
    (line_of fields ≡ Err k) ⊎ ((last : Line) × (line_of fields ≡ Ok last) × (fault_within limits past last ≡ Some k)) ⊎ (k ≡ kind.NoMemory)

-- the line is lawful after the others and is one of them now, with what it finishes or the answer that it wants
abbrev pub TakesLine : Limits → List Line → Line → Result (Option Item) RowFaultKind → RowProgress → Type 0
TakesLine limits past last (Ok given) new = (fault_within limits past last ≡ None) × (given ≡ item_of past last) × IsAfter limits (last ∷ past) new
TakesLine limits past last (Err k) new = (fault_within limits past last ≡ Some k) ⊎ (k ≡ kind.NoMemory)
