-- The names of sessions and keys.
use Rattle.std.specs.Prelude.{ℕ, ◌+◌, Bool, ◌||◌, ◌&&◌, ◌==◌, nat_lt, nat_le, if◌then◌else◌, List}
use Rattle.std.specs.Prelude.{length, Option, Some, Result, Ok, Err, not, position, option_map}
use Rattle.std.specs.Option.{option_map_or}
use Rattle.tcc_txn.specs.declared.limits.TheConstants.{MAX_NAME_BYTES}
use Rattle.tcc_txn.specs.declared.name.NameFault.{NameFault}
use Rattle.tcc_txn.specs.declared.name.NameFault.TheVariants.{Empty, TooLong, BadByte}

-- A to Z, a to z, 0 to 9, the underscore, the full stop and the hyphen
abbrev pub is_name_byte : ℕ → Bool
is_name_byte b =
    (nat_le 65 b && nat_le b 90) || (nat_le 97 b && nat_le b 122) || (nat_le 48 b && nat_le b 57)
    || (b == 95) || (b == 46) || (b == 45)

-- why the bytes are not a name: there are none, there are more than `MAX_NAME_BYTES`, or the byte at a position, counted from
-- 1, is in no name
abbrev pub name_fault : List ℕ → Option NameFault
name_fault bytes =
    if length bytes == 0 then Some Empty
    else if nat_lt MAX_NAME_BYTES (length bytes) then Some TooLong
    else option_map (λ i. BadByte (i + 1)) (position (λ b. not (is_name_byte b)) bytes)

-- the name that the bytes are, or why they are none
abbrev pub name_of : List ℕ → Result (List ℕ) NameFault
name_of bytes = option_map_or Err (name_fault bytes) (Ok bytes)
