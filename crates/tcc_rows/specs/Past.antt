-- What a line means after others. The lines before it are in order, newest first, and each of them is lawful.
use Rattle.std.specs.Prelude.{ℕ, ◌+◌, Bool, true, false, not, nat_lt, if◌then◌else◌, List, [], ◌∷◌, ◌++◌, length, filter, Option, None, Some}
use Rattle.std.specs.List.{list_any}
use Rattle.std.specs.Option.{option_map_or}
use Rattle.std.specs.Ordering.{nat_cmp}
use Rattle.std.specs.Cmp.Lexicographic.{slice_cmp}
use Rattle.std.specs.declared.cmp.Ordering.{Ordering}
use Rattle.std.specs.declared.cmp.Ordering.TheVariants.{Less, Equal, Greater}
use Rattle.tcc_txn.specs.Limits.{most_keys, most_seals, most_sessions, most_transactions}
use Rattle.tcc_txn.specs.Bytes.{same}
use Rattle.tcc_txn.specs.Transactions.{op_key}
use Rattle.tcc_txn.specs.declared.limits.Limits.{Limits}
use Rattle.tcc_txn.specs.declared.limits.Limits.TheVariants.{Small}
use Rattle.tcc_txn.specs.declared.limits.TheConstants.{MAX_OPERATIONS}
use Rattle.tcc_txn.specs.declared.op.Op.{Op}
use Rattle.tcc_txn.specs.declared.op.Op.TheVariants.{Get, Put}
use Rattle.tcc_rows.specs.declared.rows.Item.{Item}
use Rattle.tcc_rows.specs.declared.rows.Item.TheVariants as item
use Rattle.tcc_rows.specs.declared.fault.RowFaultKind.{RowFaultKind}
use Rattle.tcc_rows.specs.declared.fault.RowFaultKind.TheVariants as kind
use Rattle.tcc_rows.specs.Line.{Line}
use Rattle.tcc_rows.specs.Line as line

-- a begin of the session, or how its transaction ended
abbrev pub is_mark : List ℕ → Line → Bool
is_mark name line.Seal = false
is_mark name (line.Begin session) = same session name
is_mark name (line.Finish session committed) = same session name
is_mark name (line.Unknown session) = same session name
is_mark name (line.Operation session op) = false

abbrev pub begins : Line → Bool
begins line.Seal = false
begins (line.Begin session) = true
begins (line.Finish session committed) = false
begins (line.Unknown session) = false
begins (line.Operation session op) = false

-- the last such line of the session is a begin
abbrev pub is_begun : List ℕ → List Line → Bool
is_begun name [] = false
is_begun name (last ∷ past) = if is_mark name last then begins last else is_begun name past

-- the operations of the session in the line
abbrev pub ops_in : List ℕ → Line → List Op
ops_in name line.Seal = []
ops_in name (line.Begin session) = []
ops_in name (line.Finish session committed) = []
ops_in name (line.Unknown session) = []
ops_in name (line.Operation session op) = if same session name then op ∷ [] else []

-- the operations of the session since its last begin, or since its transaction ended
abbrev pub ops_since : List ℕ → List Line → List Op
ops_since name [] = []
ops_since name (last ∷ past) = if is_mark name last then [] else ops_since name past ++ ops_in name last

-- names and one more, each once
abbrev pub with_name : List ℕ → List (List ℕ) → List (List ℕ)
with_name name names = if list_any (same name) names then names else name ∷ names

-- the sessions so far, each once
abbrev pub sessions : List Line → List (List ℕ)
sessions [] = []
sessions (line.Seal ∷ past) = sessions past
sessions (line.Begin session ∷ past) = with_name session (sessions past)
sessions (line.Finish session committed ∷ past) = sessions past
sessions (line.Unknown session ∷ past) = sessions past
sessions (line.Operation session op ∷ past) = sessions past

-- the keys so far, each once
abbrev pub keys : List Line → List (List ℕ)
keys [] = []
keys (line.Seal ∷ past) = keys past
keys (line.Begin session ∷ past) = keys past
keys (line.Finish session committed ∷ past) = keys past
keys (line.Unknown session ∷ past) = keys past
keys (line.Operation session op ∷ past) = with_name (op_key op) (keys past)

-- how many transactions were begun
abbrev pub begin_count : List Line → ℕ
begin_count [] = 0
begin_count (last ∷ past) = if begins last then begin_count past + 1 else begin_count past

abbrev pub seals : Line → Bool
seals line.Seal = true
seals (line.Begin session) = false
seals (line.Finish session committed) = false
seals (line.Unknown session) = false
seals (line.Operation session op) = false

-- how many seals there were
abbrev pub seal_count : List Line → ℕ
seal_count [] = 0
seal_count (last ∷ past) = if seals last then seal_count past + 1 else seal_count past

-- the session's transaction ended with unknown outcome, so the session ends
abbrev pub ends : List ℕ → Line → Bool
ends name line.Seal = false
ends name (line.Begin session) = false
ends name (line.Finish session committed) = false
ends name (line.Unknown session) = same session name
ends name (line.Operation session op) = false

-- the session has ended
abbrev pub is_ended : List ℕ → List Line → Bool
is_ended name past = list_any (ends name) past

-- the line is one of a session that has ended
abbrev pub is_late : List Line → Line → Bool
is_late past line.Seal = false
is_late past (line.Begin session) = is_ended session past
is_late past (line.Finish session committed) = is_ended session past
is_late past (line.Unknown session) = is_ended session past
is_late past (line.Operation session op) = is_ended session past

-- the least kind of fault that a line has after others under the limits, if it has one and its session hasn't ended
abbrev pub fault_in_time : Limits → List Line → Line → Option RowFaultKind
fault_in_time limits past line.Seal = if nat_lt (most_seals limits) (seal_count (line.Seal ∷ past)) then Some kind.TooManySeals else None
fault_in_time limits past (line.Begin session) =
    if is_begun session past then Some kind.AlreadyBegun
    else if nat_lt (most_sessions limits) (length (sessions (line.Begin session ∷ past))) then Some kind.TooManySessions
    else if nat_lt (most_transactions limits) (begin_count (line.Begin session ∷ past)) then Some kind.TooManyTransactions
    else None
fault_in_time limits past (line.Finish session committed) = if is_begun session past then None else Some kind.NotBegun
fault_in_time limits past (line.Unknown session) = if is_begun session past then None else Some kind.NotBegun
fault_in_time limits past (line.Operation session op) =
    if not (is_begun session past) then Some kind.NotBegun
    else if nat_lt MAX_OPERATIONS (length (ops_since session (line.Operation session op ∷ past))) then Some kind.TooManyOps
    else if nat_lt (most_keys limits) (length (keys (line.Operation session op ∷ past))) then Some kind.TooManyKeys
    else None

-- the least kind of fault that a line has after others under the limits, if it has one
abbrev pub fault_within : Limits → List Line → Line → Option RowFaultKind
fault_within limits past last = if is_late past last then Some kind.SessionEnded else fault_in_time limits past last

-- the fault of a line after others, under the small limits
abbrev pub fault_of : List Line → Line → Option RowFaultKind
fault_of = fault_within Small

-- the operation is a write
abbrev pub is_write : Op → Bool
is_write (Get key value) = false
is_write (Put key value) = true

-- the writes among operations
abbrev pub writes_of : List Op → List Op
writes_of ops = filter is_write ops

-- What a lawful line after others finishes, or the answer that it wants. Of a transaction of unknown outcome it has the
-- writes, as they are if it counts as committed.
abbrev pub item_of : List Line → Line → Option Item
item_of past line.Seal = Some item.Seal
item_of past (line.Begin session) = None
item_of past (line.Finish session committed) =
    Some (item.Finished session (record { ops = ops_since session past; committed = committed }))
item_of past (line.Unknown session) = Some (item.Unknown session (record { ops = writes_of (ops_since session past); committed = true }))
item_of past (line.Operation session op) = None

-- the lesser of two names in byte order
abbrev pub lesser : List ℕ → List ℕ → List ℕ
lesser a b = of_order (slice_cmp nat_cmp a b)
  where
    of_order : Ordering → List ℕ
    of_order Less = a
    of_order Equal = a
    of_order Greater = b

-- the least of some names
abbrev pub least : List (List ℕ) → Option (List ℕ)
least [] = None
least (name ∷ names) = Some (option_map_or (lesser name) (least names) name)

-- the sessions whose transactions are not finished
abbrev pub open_sessions : List Line → List (List ℕ)
open_sessions past = filter (λ name. is_begun name past) (sessions past)
