-- What is returned for a line, and for the rest of a text.
use Rattle.std.specs.Prelude.{ℕ, ◌≡◌, ◌⊎◌, List, Result, Ok, Err}
use Rattle.std.specs.Global.{Vec}
use Rattle.tcc_cert.specs.declared.fault.CertFault.{CertFault}
use Rattle.tcc_cert.specs.declared.fault.CertFaultKind.TheVariants.{NoMemory}
use Rattle.tcc_cert.specs.declared.fault.CertFaultKind.{CertFaultKind}
use Rattle.tcc_cert.specs.Reading.{Position, Reads}
use Rattle.tcc_cert.specs.Outcomes.{IsCutShort}

-- what a line shows, unless memory was refused
abbrev pub Shows : {X : Type 0} → Result X CertFaultKind → Result X CertFaultKind → Type 0
Shows (Ok x) shown = shown ≡ Ok x
Shows (Err kind) shown = (shown ≡ Err kind) ⊎ (kind ≡ NoMemory)

-- the items of a vector that a line shows, unless memory was refused
abbrev pub ShowsItems : {X : Type 0} → Result (Vec X) CertFaultKind → Result (List X) CertFaultKind → Type 0
ShowsItems (Ok vec) shown = shown ≡ Ok vec.items
ShowsItems (Err kind) shown = (shown ≡ Err kind) ⊎ (kind ≡ NoMemory)

-- what a line shows, as the result of the line with this number
abbrev pub at_line : {X : Type 0} → ℕ → Result X CertFaultKind → Result X CertFault
at_line number (Ok x) = Ok x
at_line number (Err kind) = Err (record { line = number; kind = kind })

-- the fault of the text, unless the reader failed or memory was refused
abbrev pub Faults : {X : Type 0} → Type 0 → Position → Reads X → CertFault → Type 0
Faults failed at read fault = (read ≡ Err fault) ⊎ IsCutShort failed at read fault
