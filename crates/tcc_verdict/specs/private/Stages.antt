-- How the stages of a check follow one another.
use Rattle.std.specs.Prelude.{ℕ, ◌≡◌, ◌≢◌, ◌⊎◌, List, [], None, Some, Result, Ok, Err}
use Rattle.tcc_rows.specs.Answers.{answers_within, records_within}
use Rattle.tcc_rows.specs.Failing.{FailsAtWithin}
use Rattle.tcc_rows.specs.Items.{finished_in}
use Rattle.tcc_txn.specs.Snapshots.{Sessions}
use Rattle.tcc_txn.specs.declared.limits.Limits.{Limits}
use Rattle.tcc_rows.specs.declared.fault.RowFault.{RowFault}
use Rattle.tcc_rows.specs.declared.fault.RowFaultKind.TheVariants as row_kind
use Rattle.tcc_reads.specs.Faults.{read_faults}
use Rattle.tcc_reads.specs.History.{History}
use Rattle.tcc_reads.specs.Sources.{history}
use Rattle.tcc_rules.specs.declared.judgement.Judgement.{Judgement}
use Rattle.tcc_print.specs.Statuses.{run_error_status}
use Rattle.tcc_print.specs.Texts.{run_error_text}
use Rattle.tcc_print.specs.declared.run_error.RunError.{RunError}
use Rattle.tcc_print.specs.declared.run_error.RunError.TheVariants.{Row, Reads, Text, NoMemory}
use Rattle.tcc_verdict.specs.Checking.{Check}
use Rattle.tcc_verdict.specs.Checks.{IsTextCheck}

-- what is made of a snapshot whose reads have no faults, else all their faults
abbrev pub IsResolution : {G : Type 0} → (Sessions → G → Type 0) → Sessions → Result G RunError → Type 0
IsResolution is_made s (Ok made) = (read_faults s ≡ []) × is_made s made
IsResolution is_made s (Err (Reads faults)) = (read_faults s ≢ []) × (faults.items ≡ read_faults s)
IsResolution is_made s (Err _) = ⊥

-- the same, or `NoMemory`
abbrev pub MayBeResolution : {G : Type 0} → (Sessions → G → Type 0) → Sessions → Result G RunError → Type 0
MayBeResolution is_made s o = IsResolution is_made s o ⊎ (o ≡ Err NoMemory)

-- the history of a snapshot
abbrev pub IsHistory : Sessions → History → Type 0
IsHistory s h = h ≡ history s

-- the fault of the records, or that of a reader that failed after lawful ones
abbrev pub IsRowRunError : Limits → List ℕ → RowFault → Type 0
IsRowRunError limits records fault = ((answers_within limits records).fault ≡ Some fault)
    ⊎ ((fault.kind ≡ row_kind.Read) × FailsAtWithin limits fault.row (records_within limits records))

-- where the records have no fault, what is made of all that they finish, or all its read faults; else why there is nothing
abbrev pub IsMadeOf : {G : Type 0} → Limits → (Sessions → G → Type 0) → List ℕ → Result G RunError → Type 0
IsMadeOf limits is_made records (Err (Row fault)) = IsRowRunError limits records fault
IsMadeOf limits is_made records (Err NoMemory) = Unit {0}
IsMadeOf limits is_made records (Err (Text fault)) = ⊥
IsMadeOf limits is_made records o =
    ((answers_within limits records).fault ≡ None) × IsResolution is_made (finished_in (answers_within limits records).items) o

-- the outcome of a certificate's text for a snapshot whose reads have no faults, or `NoMemory`
abbrev pub MayBeOfText : {J : Type 0} → Check J → Sessions → List ℕ → Result J RunError → Type 0
MayBeOfText check s text o = check.of_text s text o ⊎ (o ≡ Err NoMemory)

-- what is printed in place of a verdict is the same as in other runs
pub record TellsRunErrors {J : Type 0} (check : Check J) : Type 0 where
  pub text : (why : RunError) → check.text (Err why) ≡ run_error_text why
  pub status : (why : RunError) → check.status (Err why) ≡ run_error_status why

-- a check of records within these limits, which prints so; once a snapshot is made, its outcome is no fault of a record
pub record IsCheckWithin {J : Type 0} (limits : Limits) (check : Check J) : Type 0 where
  pub limited : check.limits ≡ limits
  pub tells : TellsRunErrors check
  pub passed : (s : Sessions) (text : List ℕ) (fault : RowFault) → check.of_text s text (Err (Row fault)) → ⊥

-- the outcome of a certificate's text for a history within the small limits, or `NoMemory`
abbrev pub MayBeTextCheck : History → List ℕ → Result Judgement RunError → Type 0
MayBeTextCheck h text o = IsTextCheck h text o ⊎ (o ≡ Err NoMemory)
