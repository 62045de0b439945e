-- What standard error says to a person about the fault of a record: what the record has, and what is expected there.
use Rattle.std.specs.Prelude.{ℕ, ◌/◌, ◌%◌, Bool, ◌&&◌, not, nat_eq, nat_le, nat_lt, List, [], ◌∷◌, ◌++◌, length, take, flat_map, slice_get, slice_index_or, Option, None, Some, codes, decimal, if◌then◌else◌}
use Rattle.tcc_txn.specs.Limits.{most_bytes, most_keys, most_seals, most_sessions, most_transactions}
use Rattle.tcc_txn.specs.declared.limits.Limits.{Limits}
use Rattle.tcc_txn.specs.declared.limits.Limits.TheVariants.{Small, Large}
use Rattle.tcc_txn.specs.declared.limits.TheConstants.{MAX_OPERATIONS}
use Rattle.tcc_rows.specs.declared.fault.RowFault.{RowFault}
use Rattle.tcc_rows.specs.declared.fault.RowFaultKind.{RowFaultKind}
use Rattle.tcc_rows.specs.declared.fault.RowFaultKind.TheVariants as row_kind
use Rattle.tcc_print.specs.declared.notes.mending.Shown.{Shown}
use Rattle.tcc_print.specs.declared.notes.mending.Shown.TheVariants as shown

-- ---- bytes of the input

-- the byte is a printable one that means nothing between quotes
abbrev pub is_plain : ℕ → Bool
is_plain byte = nat_le 32 byte && (nat_le byte 126 && (not (nat_eq byte 34) && not (nat_eq byte 92)))

abbrev pub hex_digit : ℕ → ℕ
hex_digit n = slice_index_or (codes "0123456789abcdef") n 0

-- a plain byte as it is, any other by the two hexadecimal digits of its value
abbrev pub byte_shown : ℕ → List ℕ
byte_shown byte = if is_plain byte then byte ∷ [] else codes "\\x" ++ (hex_digit (byte / 16) ∷ hex_digit (byte % 16) ∷ [])

-- of many bytes the first 48 are shown, and two dots after them
abbrev pub quoted : List ℕ → List ℕ
quoted bytes =
    codes "\"" ++ (flat_map byte_shown (take 48 bytes) ++ (if nat_lt 48 (length bytes) then codes "\" .." else codes "\""))

-- ---- what the record has

-- the fields of a record, one at least, with commas between them; of each field no more bytes than are shown, and one more
abbrev pub line_shown : List ℕ → List (List ℕ) → List ℕ
line_shown first others = take 49 first ++ flat_map (λ field. codes "," ++ take 49 field) others

-- the record, if its fields are known
abbrev pub record_shown : List (List ℕ) → List ℕ
record_shown [] = []
record_shown (first ∷ others) = quoted (line_shown first others) ++ codes ": "

-- the session that a record of two or four fields names
abbrev pub session_among : List (List ℕ) → Option (List ℕ)
session_among (session ∷ (word ∷ [])) = Some session
session_among (session ∷ (word ∷ (key ∷ (value ∷ [])))) = Some session
session_among _ = None

abbrev pub session_named : Option (List ℕ) → List ℕ
session_named None = []
session_named (Some session) = codes " of session " ++ quoted session

-- for a field at this index: the session of its record, where that is another field
abbrev pub session_shown : ℕ → List (List ℕ) → List ℕ
session_shown place fields = if nat_lt 0 place then session_named (session_among fields) else []

abbrev pub field_of : ℕ → List (List ℕ) → Option (List ℕ) → List ℕ
field_of place fields None = []
field_of place fields (Some field) = quoted field ++ (session_shown place fields ++ codes ": ")

-- the field at this index, if it is known
abbrev pub field_shown : ℕ → List (List ℕ) → List ℕ
field_shown place fields = field_of place fields (slice_get fields place)

abbrev pub shown_text : Shown → List (List ℕ) → List ℕ
shown_text (shown.Field place) fields = field_shown place fields
shown_text shown.Record fields = record_shown fields
shown_text shown.Nothing fields = []

-- what is shown of a record with this number of fields: the field that is wrong; the whole record; nothing, where the input is wrong
abbrev pub shown_of : RowFaultKind → ℕ → Shown
shown_of row_kind.FieldCount fields = shown.Record
shown_of row_kind.BadSession fields = shown.Field 0
shown_of row_kind.UnknownWord fields = if nat_eq fields 1 then shown.Record else shown.Field 1
shown_of row_kind.BadKey fields = shown.Field 2
shown_of row_kind.BadValue fields = shown.Field 3
shown_of row_kind.WriteOfZero fields = shown.Field 3
shown_of row_kind.SessionEnded fields = shown.Record
shown_of row_kind.NotBegun fields = shown.Record
shown_of row_kind.AlreadyBegun fields = shown.Record
shown_of row_kind.TooManyOps fields = shown.Record
shown_of row_kind.TooManySessions fields = shown.Record
shown_of row_kind.TooManyTransactions fields = shown.Record
shown_of row_kind.TooManyKeys fields = shown.Record
shown_of row_kind.TooManySeals fields = shown.Record
shown_of (row_kind.Unfinished session) fields = shown.Nothing
shown_of row_kind.Read fields = shown.Record
shown_of row_kind.NoMemory fields = shown.Nothing

-- ---- what is expected

abbrev pub stands_text : List ℕ → List ℕ
stands_text stands = codes "expected " ++ stands

abbrev name_form : List ℕ
name_form = codes "a name, which is 1 to 32 of A-Z, a-z, 0-9, '_', '.' and '-'"

abbrev record_form : List ℕ
record_form = codes "SESSION,begin or SESSION,r,KEY,VALUE or SESSION,w,KEY,VALUE or SESSION,commit or SESSION,abort or SESSION,unknown or seal"

-- what is expected in place of an unknown word, by the number of fields of its record
abbrev pub word_stands : ℕ → List ℕ
word_stands fields =
    if nat_eq fields 1 then record_form
    else (if nat_eq fields 2 then codes "begin, commit, abort or unknown, or r or w with KEY and VALUE"
    else (if nat_eq fields 4 then codes "r or w, or begin, commit, abort or unknown without KEY and VALUE"
    else codes "begin, r, w, commit, abort, unknown or seal"))

-- one text within the small limits, and another within the large ones
abbrev pub wider : Limits → List ℕ → List ℕ → List ℕ
wider Small small large = small
wider Large small large = large

-- at most this many of these
abbrev pub most_text : ℕ → List ℕ → List ℕ
most_text most things = codes "at most " ++ (decimal most ++ (codes " " ++ things))

-- a limit that is exceeded
abbrev pub limit_text : Limits → RowFaultKind → List ℕ
limit_text limits row_kind.TooManyOps = most_text MAX_OPERATIONS (codes "operations in a transaction")
limit_text limits row_kind.TooManySessions = most_text (most_sessions limits) (wider limits (codes "sessions, see --large") (codes "sessions"))
limit_text limits row_kind.TooManyTransactions =
    most_text (most_transactions limits)
    (wider limits (codes "transactions, aborted ones counted, see --large") (codes "transactions, aborted ones counted"))
limit_text limits row_kind.TooManyKeys = most_text (most_keys limits) (wider limits (codes "keys, see --large") (codes "keys"))
limit_text limits row_kind.TooManySeals = most_text (most_seals limits) (wider limits (codes "seals, see --large") (codes "seals"))
limit_text limits row_kind.Read = most_text (most_bytes limits) (codes "bytes, from a reader that does not fail")
limit_text limits _ = []

-- what is expected where a record has a fault of this kind, by the number of its fields
abbrev pub expected_text : Limits → RowFaultKind → ℕ → List ℕ
expected_text limits row_kind.FieldCount fields = stands_text record_form
expected_text limits row_kind.BadSession fields = stands_text name_form
expected_text limits row_kind.UnknownWord fields = stands_text (word_stands fields)
expected_text limits row_kind.BadKey fields = stands_text name_form
expected_text limits row_kind.BadValue fields = stands_text (codes "a whole number up to 18446744073709551615, in digits without a leading 0")
expected_text limits row_kind.WriteOfZero fields = stands_text (codes "a value other than the initial 0")
expected_text limits row_kind.SessionEnded fields = stands_text (codes "another session, since this one ended by a transaction of unknown outcome")
expected_text limits row_kind.NotBegun fields = stands_text (codes "begin first, since no transaction of the session is begun")
expected_text limits row_kind.AlreadyBegun fields = stands_text (codes "commit, abort or unknown first, since a transaction of the session is begun")
expected_text limits row_kind.TooManyOps fields = limit_text limits row_kind.TooManyOps
expected_text limits row_kind.TooManySessions fields = limit_text limits row_kind.TooManySessions
expected_text limits row_kind.TooManyTransactions fields = limit_text limits row_kind.TooManyTransactions
expected_text limits row_kind.TooManyKeys fields = limit_text limits row_kind.TooManyKeys
expected_text limits row_kind.TooManySeals fields = limit_text limits row_kind.TooManySeals
expected_text limits (row_kind.Unfinished session) fields = codes "the input ends: expected commit, abort or unknown of the session"
expected_text limits row_kind.Read fields = limit_text limits row_kind.Read
expected_text limits row_kind.NoMemory fields = codes "out of memory"

-- row N: what the record has, and what is expected
abbrev pub row_note : Limits → RowFault → List (List ℕ) → List ℕ
row_note limits fault fields =
    codes "row " ++ (decimal fault.row
    ++ (codes ": " ++ (shown_text (shown_of fault.kind (length fields)) fields ++ (expected_text limits fault.kind (length fields) ++ codes "\n"))))
