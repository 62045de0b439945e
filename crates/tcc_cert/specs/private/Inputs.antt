-- How far the reading of a reader's bytes has come.
use Rattle.std.specs.Prelude.{ℕ, ◌≡◌, ◌≢◌, ◌⊎◌, ◌-◌, List, [], take, Option, Result, Ok, Err}
use Rattle.tcc_cert.specs.declared.fault.CertFault.{CertFault}
use Rattle.tcc_cert.specs.declared.fault.CertFaultKind.{CertFaultKind}
use Rattle.tcc_cert.specs.declared.fault.CertFaultKind.TheVariants.{Read, Trailing}
use Rattle.tcc_cert.specs.declared.reading.input.Input.{Input}
use Rattle.tcc_cert.specs.WindowBytes.{window_bytes}
use Rattle.tcc_cert.specs.InputBytes.{HasFailed, IsAt}
use Rattle.tcc_cert.specs.Outcomes.{IsFailure}
use Rattle.tcc_cert.specs.private.Showing.{Faults}
use Rattle.tcc_cert.specs.Reading.{Position, Reads, behind, line_of}

-- the last line without its line feed
abbrev pub line_in : {R : Type 0} → Input R → List ℕ
line_in input = take (input.passed - 1) (window_bytes input.window)

-- no read of the reader failed in between
abbrev pub AsBefore : {R : Type 0} → Input R → Input R → Type 0
AsBefore old new = new.source.failed ≡ old.source.failed

-- what the next line, of at most this many bytes, shows, unless the reader failed
abbrev pub FindsLine : {R : Type 0} → ℕ → Position → Result ℕ CertFaultKind → Input R → Type 0
FindsLine most at (Ok length) new = line_of most at.bytes ≡ Ok (take length (window_bytes new.window))
FindsLine most at (Err kind) new = (line_of most at.bytes ≡ Err kind) ⊎ ((kind ≡ Read) × HasFailed new)

-- the next line was read, or its fault was met, or the reader failed or memory was refused
abbrev pub TakesLine : {R : Type 0} → (R → Option (List ℕ)) → ℕ → Position → Result ℕ CertFault → Input R → Type 0
TakesLine remaining most at (Ok number) new =
    (line_of most at.bytes ≡ Ok (line_in new)) × (number ≡ at.line) × IsAt remaining new (behind at (line_in new))
TakesLine remaining most at (Err fault) new = ((line_of most at.bytes ≡ Err fault.kind) ⊎ IsFailure (HasFailed new) fault.kind) × (fault.line ≡ at.line)

-- what the text shows from the position on was given, and the input is now after it
abbrev pub Gives : {R X : Type 0} → (R → Option (List ℕ)) → Position → Reads X → Result X CertFault → Input R → Type 0
Gives remaining at read (Ok x) new = (after : Position) × (read ≡ Ok (x, after)) × IsAt remaining new after
Gives remaining at read (Err fault) new = Faults (HasFailed new) at read fault

-- something that fits what the text shows from the position on was given, and the input is now after that
pub record SuchGiven {R X Y : Type 0} (remaining : R → Option (List ℕ)) (at : Position) (read : Reads X) (such : X → Y → Type 0) (y : Y) (new : Input R) : Type 0 where
  pub item : X
  pub holds : such item y
  pub given : Gives remaining at read (Ok item) new

-- the same, or a fault was met
abbrev pub GivesSuch : {R X Y : Type 0} → (R → Option (List ℕ)) → Position → Reads X → (X → Y → Type 0) → Result Y CertFault → Input R → Type 0
GivesSuch remaining at read such (Ok y) new = SuchGiven remaining at read such y new
GivesSuch remaining at read such (Err fault) new = Faults (HasFailed new) at read fault

-- whether there are no bytes from the position on, unless the reader failed
abbrev pub Ends : {R : Type 0} → Position → Result (Unit {0}) CertFault → Input R → Type 0
Ends at (Ok _) new = at.bytes ≡ []
Ends at (Err fault) new = (fault.line ≡ at.line) × (((fault.kind ≡ Trailing) × (at.bytes ≢ [])) ⊎ ((fault.kind ≡ Read) × HasFailed new))
