-- What a check does with two files, and what is printed where a file can't be opened or made, and how the run then ends.
use Rattle.std.specs.Prelude.{ℕ, Bool, List, Option, None, Some, false, true}
use Rattle.std.specs.declared.io.ErrorKind.{ErrorKind}
use Rattle.std.specs.declared.io.ErrorKind.TheVariants.{OutOfMemory}
use Rattle.tcc_cli.specs.declared.input.RecordInput.{RecordInput}
use Rattle.tcc_cli.specs.declared.input.RecordInput.TheVariants as input
use Rattle.tcc_print.specs.declared.status.Status.{Status}
use Rattle.tcc_print.specs.declared.status.Status.TheVariants.{Memory, Device}
use Rattle.tcc_print.specs.Printed.{Prints, device_line, memory_line}
use Rattle.tcc_cli.specs.Opened.{IsAside}
use Rattle.tcc_verdict.specs.Checking.{IsCheckRunBy, PrintsOutcome}
use Rattle.tcc_verdict.specs.Checks.{IsCheckRun, PrintsSome}
use Rattle.tcc_verdict.specs.LargeChecks.{large_check}

-- the line for the device, or the one that says that memory is out
abbrev pub unopened_text : Bool → ErrorKind → List ℕ
unopened_text json OutOfMemory = memory_line json
unopened_text json _ = device_line json

abbrev pub unopened_status : ErrorKind → Status
unopened_status OutOfMemory = Memory
unopened_status _ = Device

-- the line for a file that can't be opened, by the kind of the error, with its status
abbrev pub PrintsUnopened : Bool → ErrorKind → Option (List ℕ) → Option (List ℕ) → ℕ → Type 0
PrintsUnopened json kind before after code = Prints before after (unopened_text json kind) (unopened_status kind) code

-- what a check does with the bytes of both files, within the large limits or the small ones
abbrev pub IsRunWithin : Bool → List ℕ → List ℕ → Option (List ℕ) → Option (List ℕ) → ℕ → Type 0
IsRunWithin false records text before after code = IsCheckRun records text before after code
IsRunWithin true records text before after code = IsCheckRunBy large_check records text before after code

-- the text of some outcome of such a check and its status, whatever is known of the bytes
abbrev pub PrintsWithin : Bool → Option (List ℕ) → Option (List ℕ) → ℕ → Type 0
PrintsWithin false before after code = PrintsSome before after code
PrintsWithin true before after code = PrintsOutcome large_check before after code

-- the one is given exactly where the other is
abbrev pub AreBothGiven : {A B : Type 0} → Option A → Option B → Type 0
AreBothGiven None None = Unit {0}
AreBothGiven (Some a) (Some b) = Unit {0}
AreBothGiven None (Some b) = ⊥
AreBothGiven (Some a) None = ⊥

-- the input is the file that is named, in the place of no standard stream, or the standard input where none is named
abbrev pub IsInputOf : {A : Type 0} → Option A → RecordInput → Type 0
IsInputOf (Some path) (input.File file) = IsAside file
IsInputOf None (input.Standard stdin) = Unit {0}
IsInputOf _ _ = ⊥
