-- What is kept of the lines so far, and how it relates to them.
use Rattle.std.specs.Prelude.{ℕ, ◌≡◌, ◌≤◌, Bool, if◌then◌else◌, List, length, Option, None, Some}
use Rattle.std.specs.List.{list_any}
use Rattle.std.specs.BTreeSet.{BTreeSet, contains}
use Rattle.std.specs.Ordering.{nat_cmp}
use Rattle.std.specs.Cmp.Lexicographic.{slice_cmp}
use Rattle.tcc_txn.specs.Limits.{most_keys, most_seals, most_sessions, most_transactions}
use Rattle.tcc_txn.specs.Bytes.{same}
use Rattle.tcc_txn.specs.Symbols.{is_symbol}
use Rattle.tcc_rows.specs.Seats.{Seats, seat_at}
use Rattle.tcc_rows.specs.Past.{begin_count, is_begun, is_ended, keys, ops_since, seal_count, sessions}
use Rattle.tcc_txn.specs.declared.limits.Limits.{Limits}
use Rattle.tcc_txn.specs.declared.op.Op.{Op}
use Rattle.tcc_rows.specs.Line.{Line}
use Rattle.tcc_rows.specs.declared.rows.progress.RowProgress.{RowProgress}

-- a session's seat: none before its first begin; then the operations of its transaction, if one is begun
abbrev pub seat : Bool → List Op → Bool → Option (Option (List Op))
seat begun ops seen = if begun then Some (Some ops) else if seen then Some None else None

abbrev pub seat_of : List ℕ → List Line → Option (Option (List Op))
seat_of name past = seat (is_begun name past) (ops_since name past) (list_any (same name) (sessions past))

-- each session so far has its seat, and there are not too many
pub record HoldsSeats (limits : Limits) (past : List Line) (seats : Seats) : Type 0 where
  pub each : (name : List ℕ) → seat_at seats name ≡ seat_of name past
  pub count : length seats ≡ length (sessions past)
  pub few : length (sessions past) ≤ most_sessions limits

-- the set has the sessions that have ended
abbrev pub HoldsEnded : List Line → BTreeSet (List ℕ) → Type 0
HoldsEnded past set = (name : List ℕ) → contains (slice_cmp nat_cmp) set name ≡ is_ended name past

-- the table has these names, each in the list once, and there are not too many
pub record HoldsNames (limits : Limits) (names : List (List ℕ)) (table : List (List ℕ)) : Type 0 where
  pub each : (name : List ℕ) → is_symbol name table ≡ list_any (same name) names
  pub count : length table ≡ length names
  pub few : length names ≤ most_keys limits

-- the progress is that of these lines under the limits
pub record IsAfter (limits : Limits) (past : List Line) (p : RowProgress) : Type 0 where
  pub kept : p.limits ≡ limits
  pub seats : HoldsSeats limits past p.sessions
  pub ended : HoldsEnded past p.ended
  pub names : HoldsNames limits (keys past) p.keys
  pub begun : p.begun ≡ begin_count past
  pub few_begun : begin_count past ≤ most_transactions limits
  pub sealed : p.seals ≡ seal_count past
  pub few_sealed : seal_count past ≤ most_seals limits
