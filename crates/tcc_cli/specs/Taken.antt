-- Which files a run that makes one reads from and writes to besides.
use Rattle.std.specs.Prelude.{◌⊎◌, Option, option_and_then}
use Rattle.tcc_cli.specs.FileIds.{AreSame}
use Rattle.tcc_cli.specs.declared.known_file.FileId.{FileId}
use Rattle.tcc_cli.specs.declared.known_file.KnownFile.{KnownFile}
use Rattle.tcc_cli.specs.declared.opening.Streams.{Streams}

-- which of all files a known one is
abbrev pub id_of : KnownFile → Option FileId
id_of known = known.id

-- it is the file of the input, of the output or of standard error
abbrev pub IsTaken : Option FileId → Streams → Type 0
IsTaken file streams = AreSame file streams.input.id ⊎ (AreSame file streams.output.id ⊎ AreSame file (option_and_then id_of streams.errors))
