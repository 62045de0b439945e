-- What the words of the checker's command line ask for: the program that has the check alone.
use Rattle.std.specs.Prelude.{ℕ, ◌≡◌, ◌⊎◌, List, [], Option, None, Some, Result, Ok, Err, codes}
use Rattle.clap.specs.Walk.{Row, Text}
use Rattle.clap.specs.Simple.{App, new_app, on_top, subcommand_of, with_subcommand}
use Rattle.clap.specs.Faults.{fault_of}
use Rattle.clap.specs.Kinds.{IsAmong}
use Rattle.clap.specs.declared.error.kind.ErrorKind.{ErrorKind}
use Rattle.clap.specs.declared.error.kind.ErrorKind.TheVariants.{OutOfMemory}
use Rattle.tcc_cli.specs.CommandLines.{AsksFiles, EndsUnasked, EndsWithoutWords, check_command, with_subcommand_required, with_version}
use Rattle.tcc_cli.specs.declared.command_line.Files.{Files}

-- tcc_checker check [--large] HISTORY CERTIFICATE: the subcommand is the one of the program `tcc`, and has to be given
abbrev pub checker_command : App
checker_command =
    let named : App = on_top with_subcommand_required (on_top with_version (new_app (codes "tcc_checker"))) in
    with_subcommand named check_command.top

-- the paths are those that clap finds for the subcommand that was met, and the limits are the large ones by its flag
abbrev pub AsksFor : Option (Text × List Row) → Files → Type 0
AsksFor None files = ⊥
AsksFor (Some met) files = AsksFiles met.1 files

abbrev pub Asks : List Text → Files → Type 0
Asks words files = AsksFor (subcommand_of checker_command words) files

-- a check is asked for only where clap finds no fault in the words, and it is the one that they ask for. Else the run ends as
-- one of their faults has it, or out of memory
abbrev pub AreAsked : List Text → Option (List ℕ) → Option (List ℕ) → Result Files ℕ → Type 0
AreAsked words before after (Ok files) = (fault_of checker_command words ≡ []) × Asks words files × (after ≡ before)
AreAsked words before after (Err code) =
    EndsUnasked OutOfMemory before after code ⊎ ((kind : ErrorKind) × IsAmong kind (fault_of checker_command words) × EndsUnasked kind before after code)

-- it is what some words ask for, those of a process; or these could not be had
abbrev pub WasAsked : Option (List ℕ) → Option (List ℕ) → Result Files ℕ → Type 0
WasAsked before after o = ((words : List Text) × AreAsked words before after o) ⊎ EndsWithoutWords before after o
