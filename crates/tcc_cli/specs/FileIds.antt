-- Which of all files one is.
use Rattle.std.specs.Prelude.{ℕ, ◌≡◌, ◌==◌, Bool, Option, None, Some, Result, Ok, Err, bit_and, is_none, if◌then◌else◌}
use Rattle.std.specs.IoError.{error_kind}
use Rattle.std.specs.declared.io.Error.{Error}
use Rattle.std.specs.declared.io.ErrorKind.{ErrorKind}
use Rattle.tcc_cli.specs.declared.known_file.FileId.{FileId}

-- a file of this mode is a device of characters, as terminals and `/dev/null` are
abbrev pub is_character_device : ℕ → Bool
is_character_device mode = bit_and mode 0o170000 == 0o020000

-- the id of a file with this mode, by its device and its number there; none of a device of characters
abbrev pub id_with : ℕ → ℕ → ℕ → Option FileId
id_with mode device number = if is_character_device mode then None else Some (record { device = device; number = number })

-- the id is none exactly of a device of characters
abbrev pub HasId : ℕ → Option FileId → Type 0
HasId mode id = is_none id ≡ is_character_device mode

-- both are given, and are one
abbrev pub AreSame : Option FileId → Option FileId → Type 0
AreSame one other = (id : FileId) × (one ≡ Some id) × (other ≡ Some id)

-- it is an error of this kind
abbrev pub FailsAs : {T : Type 0} → ErrorKind → Result T Error → Type 0
FailsAs kind (Ok found) = ⊥
FailsAs kind (Err error) = error_kind error ≡ kind
