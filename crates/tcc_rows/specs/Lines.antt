-- What one record shows by itself.
use Rattle.std.specs.Prelude.{ℕ, ◌^◌, Bool, true, false, ◌&&◌, ◌==◌, nat_lt}
use Rattle.std.specs.Prelude.{if◌then◌else◌, List, [], ◌∷◌, Option, None, Some, Result, Ok, Err}
use Rattle.std.specs.Prelude.{is_some, codes}
use Rattle.std.specs.List.{list_any}
use Rattle.std.specs.Option.{option_map_or}
use Rattle.std.specs.Str.{all_ascii_digits}
use Rattle.std.specs.Str.Parse.{digits_value}
use Rattle.tcc_txn.specs.Bytes.{has_no_leading_zero, same}
use Rattle.tcc_rows.specs.ByteLimit.{past_limit}
use Rattle.tcc_txn.specs.Names.{name_fault}
use Rattle.tcc_txn.specs.declared.op.Op.{Op}
use Rattle.tcc_txn.specs.declared.op.Op.TheVariants.{Get, Put}
use Rattle.tcc_rows.specs.declared.fault.RowFaultKind.{RowFaultKind}
use Rattle.tcc_rows.specs.declared.fault.RowFaultKind.TheVariants as kind
use Rattle.tcc_rows.specs.Line.{Line}
use Rattle.tcc_rows.specs.Line as line

-- a record, as its fields
abbrev pub Record : Type 0
Record = List (List ℕ)

-- the number of at most 64 bits that some digits denote
abbrev pub digits_of : List ℕ → Option ℕ
digits_of [] = None
digits_of (digit ∷ rest) =
    if all_ascii_digits (digit ∷ rest) && nat_lt (digits_value 10 (digit ∷ rest)) (2 ^ 64) then Some (digits_value 10 (digit ∷ rest)) else None

-- the number that digits without leading zeros denote
abbrev pub value_of : List ℕ → Option ℕ
value_of text = if has_no_leading_zero text then digits_of text else None

-- the result of a field that is to be a name
abbrev pub named : {T : Type 0} → List ℕ → RowFaultKind → Result T RowFaultKind → Result T RowFaultKind
named bytes otherwise next = if is_some (name_fault bytes) then Err otherwise else next

-- a read of the key's value, or a write, which is not of 0
abbrev pub accessed : Bool → List ℕ → ℕ → Result Op RowFaultKind
accessed writes key value = if writes then if value == 0 then Err kind.WriteOfZero else Ok (Put key value) else Ok (Get key value)

-- a read or a write, from its two fields
abbrev pub op_of : Bool → List ℕ → List ℕ → Result Op RowFaultKind
op_of writes key value = named key kind.BadKey (option_map_or (accessed writes key) (value_of value) (Err kind.BadValue))

abbrev pub in_session : List ℕ → Result Op RowFaultKind → Result Line RowFaultKind
in_session session (Ok op) = Ok (line.Operation session op)
in_session session (Err k) = Err k

-- the line of a record, or the least kind of fault that the record shows by itself
abbrev pub line_of : Record → Result Line RowFaultKind
line_of (word ∷ []) = if same word (codes "seal") then Ok line.Seal else Err kind.UnknownWord
line_of (session ∷ word ∷ []) =
    named session kind.BadSession (
    if same word (codes "begin") then Ok (line.Begin session)
    else if same word (codes "commit") then Ok (line.Finish session true)
    else if same word (codes "abort") then Ok (line.Finish session false)
    else if same word (codes "unknown") then Ok (line.Unknown session)
    else Err kind.UnknownWord
    )
line_of (session ∷ word ∷ key ∷ value ∷ []) =
    named session kind.BadSession (
    if same word (codes "r") then in_session session (op_of false key value)
    else if same word (codes "w") then in_session session (op_of true key value)
    else Err kind.UnknownWord
    )
line_of _ = Err kind.FieldCount

-- a record that the limit on bytes cuts: the mark is in it
abbrev pub is_cut : Record → Bool
is_cut fields = list_any (list_any (λ byte. byte == past_limit)) fields
