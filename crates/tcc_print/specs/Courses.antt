-- The course of a run: what is said of the snapshots in turn, how the run may end early, and what is written.
use Rattle.std.specs.Prelude.{ℕ, ◌≡◌, ◌≢◌, ◌⊎◌, List, [], ◌∷◌, ◌++◌, length, take, flat_map, Option, None, Some}
use Rattle.std.specs.Io.KnownBytes.{Appends}
use Rattle.std.specs.List.{AllZip, last_or}
use Rattle.tcc_rows.specs.Answers.{Answers, answers_within, records_within}
use Rattle.tcc_rows.specs.Failing.{FailsAtWithin, items_before_within}
use Rattle.tcc_txn.specs.Snapshots.{Sessions}
use Rattle.tcc_txn.specs.declared.limits.Limits.{Limits}
use Rattle.tcc_rows.specs.declared.fault.RowFaultKind.TheVariants as kind
use Rattle.tcc_reads.specs.declared.fault.ReadFault.{ReadFault}
use Rattle.tcc_cert.specs.Texts.{certificate_text}
use Rattle.tcc_answer.specs.Claims.{certificate_of}
use Rattle.tcc_answer.specs.declared.answer.Answer.{Answer}
use Rattle.tcc_print.specs.Checkpoints.{at_end, sealed_in}
use Rattle.tcc_print.specs.Printed.{CutsOff, answered, printed_error, unresolved}
use Rattle.tcc_print.specs.Statuses.{answer_status, run_error_status}
use Rattle.tcc_print.specs.declared.run_error.RunError.{RunError}
use Rattle.tcc_print.specs.declared.run_error.RunError.TheVariants as error
use Rattle.tcc_print.specs.declared.options.Options.{Options}
use Rattle.tcc_print.specs.declared.status.Status.{Status}
use Rattle.tcc_print.specs.declared.status.Status.TheVariants.{ReadFaults}

-- ---- what is said

-- one of the texts of a run; how the run ends where this text is its last; and the text of its certificate, if it has one
pub record Said : Type 0 where
  pub text : List ℕ
  pub status : Status
  pub certificate : Option (List ℕ)

abbrev pub answer_said : Options → Answer → Said
answer_said options a = record {
  text = answered options.json a;
  status = answer_status options.required a;
  certificate = Some (certificate_text (certificate_of a));
}

-- read faults in place of an answer
abbrev pub faults_said : Options → List ReadFault → Said
faults_said options faults = record { text = unresolved options.json faults; status = ReadFaults; certificate = None }

-- these read faults are what is said; or something else is, and there are none
abbrev pub AreSaidFaults : Options → Said → List ReadFault → Type 0
AreSaidFaults options said faults = (said ≡ faults_said options faults) ⊎ ((said.status ≢ ReadFaults) × (faults ≡ []))

-- what is printed in place of an answer, where the run ends
abbrev pub run_error_said : Options → RunError → Said
run_error_said options why = record { text = printed_error options.json why; status = run_error_status why; certificate = None }

-- the texts, one after the other
abbrev pub texts : List Said → List ℕ
texts said = flat_map (λ (one : Said). one.text) said

-- ---- a run within limits, by what it may say of a snapshot

-- where nothing was finished between two snapshots, the same is said of the second again
abbrev pub IsRepeated : Sessions → Said → List Sessions → List Said → Type 0
IsRepeated s one (next ∷ snapshots) (other ∷ said) = s ≡ next → one ≡ other
IsRepeated s one snapshots said = Unit {0}

abbrev pub AreRepeated : List Sessions → List Said → Type 0
AreRepeated (s ∷ snapshots) (one ∷ said) = IsRepeated s one snapshots said × AreRepeated snapshots said
AreRepeated snapshots said = Unit {0}

-- each snapshot is answered in turn; one that equals the one before it has the same answer
abbrev pub AreSaid : (Sessions → Said → Type 0) → List Sessions → List Said → Type 0
AreSaid is_said snapshots said = AllZip is_said snapshots said × AreRepeated snapshots said

-- the records have no fault, and there is an answer at each seal, and one at the end where it is due
abbrev pub IsWholeCourse : (Sessions → Said → Type 0) → Answers → List Said → Type 0
IsWholeCourse is_said all said = (all.fault ≡ None) × AreSaid is_said (sealed_in all.items ++ at_end all.items) said

-- Why a run may end after these items. The records have a fault, and the items are all of theirs. Or the reader failed at a record, or
-- after the last one: all records before it are lawful, and the items are theirs. Or memory is out.
abbrev pub MayEnd : Limits → List ℕ → ℕ → RunError → Type 0
MayEnd limits text n (error.Row fault) =
    (((answers_within limits text).fault ≡ Some fault) × (n ≡ length (answers_within limits text).items))
    ⊎ ((fault.kind ≡ kind.Read) × FailsAtWithin limits fault.row (records_within limits text)
    × (n ≡ length (items_before_within limits fault.row (records_within limits text))))
MayEnd limits text n error.NoMemory = Unit {0}
MayEnd limits text n _ = ⊥

-- the run was ended after some items: it gave the answers at the seals among them, and then said why it ended
abbrev pub IsEndedAfter : Limits → (Sessions → Said → Type 0) → Options → List ℕ → List Said → List Said → Type 0
IsEndedAfter limits is_said options text answers said =
    (n : ℕ) × (why : RunError) × MayEnd limits text n why × AreSaid is_said (sealed_in (take n (answers_within limits text).items)) answers
    × (said ≡ answers ++ run_error_said options why ∷ [])

abbrev pub IsEndedCourse : Limits → (Sessions → Said → Type 0) → Options → List ℕ → List Said → Type 0
IsEndedCourse limits is_said options text said = (answers : List Said) × IsEndedAfter limits is_said options text answers said

-- the run said all, or was ended; and this holds of its texts in their order, and of the last of them
abbrev pub IsCourse : Limits → (Sessions → Said → Type 0) → Options → List ℕ → (List ℕ → Said → Type 0) → Type 0
IsCourse limits is_said options bytes holds =
    (said : List Said) × (last : Said) × (IsWholeCourse is_said (answers_within limits bytes) said ⊎ IsEndedCourse limits is_said options bytes said)
    × (last_or None said ≡ Some last) × holds (texts said) last

-- ---- what is written

-- the contents of a file before and after; none where no file is given
abbrev pub Contents : Type 0
Contents = Option (Option (List ℕ))

-- these bytes are added to the contents of the file, if one is given
abbrev pub Gains : Contents → Contents → List ℕ → Type 0
Gains None after bytes = after ≡ None
Gains (Some before) None bytes = ⊥
Gains (Some before) (Some after) bytes = Appends before after bytes

-- a write of the texts failed: a part of them, from the front, was written, and nothing into the file
abbrev pub TextFails : Option (List ℕ) → Option (List ℕ) → Contents → Contents → List ℕ → ℕ → Type 0
TextFails before after file file' text code = CutsOff before after text code × Gains file file' []
