-- Words of a record, one by one.
use Rattle.std.specs.Prelude.{ℕ, Bool, true, false, if◌then◌else◌, List, Result, Ok, Err, codes}
use Rattle.tcc_txn.specs.Bytes.{same}
use Rattle.tcc_rows.specs.declared.fault.RowFaultKind.{RowFaultKind}
use Rattle.tcc_rows.specs.declared.fault.RowFaultKind.TheVariants as kind
use Rattle.tcc_rows.specs.Lines.{named, Record}
use Rattle.tcc_rows.specs.Line.{Line}
use Rattle.tcc_txn.specs.declared.limits.Limits.TheVariants.{Small}
use Rattle.tcc_txn.specs.declared.snapshot.GrowFault.{GrowFault}
use Rattle.tcc_txn.specs.declared.snapshot.GrowFault.TheVariants as grow
use Rattle.tcc_rows.specs.Answers.{judged_within, Answers, answers_after_within}
use Rattle.tcc_rows.specs.declared.rows.Rows.{Rows}
use Rattle.csv.specs.Reading.{is_io}
use Rattle.csv.specs.declared.error.ErrorKind.{ErrorKind}

abbrev pub answers_after : List Line → List Record → Answers
answers_after = answers_after_within Small

-- how many records were read
abbrev pub records_read : {R : Type 0} → Rows R → ℕ
records_read rows = rows.records.count

-- what a failure of `csv` means: the reader failed, or memory was refused
abbrev pub failure_of : ErrorKind → RowFaultKind
failure_of error = if is_io error then kind.Read else kind.NoMemory

abbrev pub judged : List Line → Record → Result Line RowFaultKind
judged = judged_within Small

-- the kind of a record whose transaction a snapshot doesn't accept
abbrev pub kind_of : GrowFault → RowFaultKind
kind_of grow.TooManySessions = kind.TooManySessions
kind_of grow.TooManyTransactions = kind.TooManyTransactions
kind_of grow.NoMemory = kind.NoMemory

-- the session that a field names
abbrev pub session_of : List ℕ → Result (List ℕ) RowFaultKind
session_of bytes = named bytes kind.BadSession (Ok bytes)

-- whether the word says that an operation is a write
abbrev pub access_of : List ℕ → Result Bool RowFaultKind
access_of word = if same word (codes "r") then Ok false else if same word (codes "w") then Ok true else Err kind.UnknownWord
