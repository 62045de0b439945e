-- The outcome for a history and a certificate, and what a run does with their bytes, within some limits of the records, and for any
-- outcome of the certificate's text.
use Rattle.std.specs.Prelude.{ℕ, ◌≡◌, ◌≢◌, ◌⊎◌, List, [], Option, None, Some, Result, Err}
use Rattle.tcc_txn.specs.Snapshots.{Sessions}
use Rattle.tcc_txn.specs.declared.limits.Limits.{Limits}
use Rattle.tcc_rows.specs.Answers.{answers_within, records_within}
use Rattle.tcc_rows.specs.Failing.{FailsAtWithin}
use Rattle.tcc_rows.specs.Items.{finished_in}
use Rattle.tcc_rows.specs.declared.rows.Item.{Item}
use Rattle.tcc_rows.specs.declared.fault.RowFault.{RowFault}
use Rattle.tcc_rows.specs.declared.fault.RowFaultKind.TheVariants as row_kind
use Rattle.tcc_reads.specs.Faults.{read_faults}
use Rattle.tcc_print.specs.declared.run_error.RunError.{RunError}
use Rattle.tcc_print.specs.declared.run_error.RunError.TheVariants.{Row, Reads, NoMemory}
use Rattle.tcc_print.specs.declared.status.Status.{Status}
use Rattle.tcc_print.specs.Printed.{Prints}

-- a check: the limits of its records, the outcome of a certificate's text for a snapshot whose reads all have sources, and how an
-- outcome is printed and ends the run
pub record Check (J : Type 0) : Type 1 where
  pub limits : Limits
  pub of_text : Sessions → List ℕ → Result J RunError → Type 0
  pub text : Result J RunError → List ℕ
  pub status : Result J RunError → Status

-- all read faults
abbrev pub AreReadFaults : {J : Type 0} → Sessions → Result J RunError → Type 0
AreReadFaults s (Err (Reads faults)) = faults.items ≡ read_faults s
AreReadFaults s _ = ⊥

-- the outcome for a snapshot: its read faults where there are any, else the outcome of the text
abbrev pub IsOfSnapshot : {J : Type 0} → Check J → Sessions → List ℕ → Result J RunError → Type 0
IsOfSnapshot check s text o = ((read_faults s ≢ []) × AreReadFaults s o) ⊎ ((read_faults s ≡ []) × check.of_text s text o)

-- the outcome for records: their fault, else the outcome for the snapshot of all that was finished, whatever was sealed
abbrev pub IsOfRecords : {J : Type 0} → Check J → List Item → Option RowFault → List ℕ → Result J RunError → Type 0
IsOfRecords check items None text o = IsOfSnapshot check (finished_in items) text o
IsOfRecords check items (Some fault) text o = o ≡ Err (Row fault)

-- the same for their bytes
abbrev pub IsOutcome : {J : Type 0} → Check J → List ℕ → List ℕ → Result J RunError → Type 0
IsOutcome check records text o =
    IsOfRecords check (answers_within check.limits records).items (answers_within check.limits records).fault text o

-- the reader of the records failed, at one of them or after the last, and all before it are lawful
abbrev pub IsFailureWithin : {J : Type 0} → Limits → List ℕ → Result J RunError → Type 0
IsFailureWithin limits records o =
    (row : ℕ) × FailsAtWithin limits row (records_within limits records) × (o ≡ Err (Row (record { row = row; kind = row_kind.Read })))

-- a possible outcome for the bytes: the one that the definition says, the fault of a reader that fails, or `NoMemory`
abbrev pub MayBe : {J : Type 0} → Check J → List ℕ → List ℕ → Result J RunError → Type 0
MayBe check records text o = IsOutcome check records text o ⊎ (IsFailureWithin check.limits records o ⊎ (o ≡ Err NoMemory))

-- the text of some outcome and its status, whatever is known of the bytes
abbrev pub PrintsOutcome : {J : Type 0} → Check J → Option (List ℕ) → Option (List ℕ) → ℕ → Type 0
PrintsOutcome {J} check before after code = (o : Result J RunError) × Prints before after (check.text o) (check.status o) code

-- what a run does with the bytes
abbrev pub IsCheckRunBy : {J : Type 0} → Check J → List ℕ → List ℕ → Option (List ℕ) → Option (List ℕ) → ℕ → Type 0
IsCheckRunBy {J} check records text before after code =
    (o : Result J RunError) × MayBe check records text o × Prints before after (check.text o) (check.status o) code
