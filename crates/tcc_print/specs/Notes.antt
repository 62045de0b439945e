-- What standard error says to a person beside the answers.
use Rattle.std.specs.Prelude.{ℕ, ◌-◌, List, [], ◌∷◌, ◌++◌, Option, None, Some, length, map, take, nat_lt, codes, decimal, if◌then◌else◌, Result, Ok, Err}
use Rattle.std.specs.Io.KnownBytes.{Appends}
use Rattle.tcc_txn.specs.Snapshots.{Sessions}
use Rattle.tcc_reads.specs.Faults.{writer}
use Rattle.tcc_reads.specs.Sites.{Site, at, stands}
use Rattle.tcc_reads.specs.declared.fault.ReadFault.{ReadFault}
use Rattle.tcc_reads.specs.declared.fault.ReadFaultKind.{ReadFaultKind}
use Rattle.tcc_reads.specs.declared.fault.ReadFaultKind.TheVariants as read_kind
use Rattle.tcc_reads.specs.declared.fault.ResolveFault.{ResolveFault}
use Rattle.tcc_reads.specs.declared.fault.ResolveFault.TheVariants as unresolved
use Rattle.tcc_answer.specs.declared.answer.Answer.{Answer}
use Rattle.tcc_answer.specs.declared.answer.Answer.TheVariants as answer
use Rattle.tcc_print.specs.Texts.{place_text, read_fault_told}

-- no more of the text than a part from its front was written
abbrev pub IsNoted : Option (List ℕ) → Option (List ℕ) → List ℕ → Type 0
IsNoted before after text = (n : ℕ) × Appends before after (take n text)

-- notes, or parts of them, were written after what was there
abbrev pub AddsNotes : Option (List ℕ) → Option (List ℕ) → Type 0
AddsNotes before after = (bytes : List ℕ) × Appends before after bytes

-- of each of these notes no more than a part from its front was written, in their order
abbrev pub AddsEach : Option (List ℕ) → Option (List ℕ) → List (List ℕ) → Type 0
AddsEach before after [] = Appends before after []
AddsEach before after (text ∷ texts) = (between : Option (List ℕ)) × IsNoted before between text × AddsEach between after texts

-- all of these notes were written, in their order
abbrev pub AddsAll : Option (List ℕ) → Option (List ℕ) → List (List ℕ) → Type 0
AddsAll before after [] = Appends before after []
AddsAll before after (text ∷ texts) = (between : Option (List ℕ)) × Appends before between text × AddsAll between after texts

-- --require N: only M transactions
abbrev pub too_few_text : ℕ → ℕ → List ℕ
too_few_text required transactions =
    codes "--require " ++ (decimal required ++ (codes ": only " ++ (decimal transactions ++ codes " transactions\n")))

-- the note of an order of this length, which counts `init`: that it has fewer transactions than are required
abbrev pub order_note : ℕ → ℕ → List ℕ
order_note required numbers = if nat_lt (numbers - 1) required then too_few_text required (numbers - 1) else []

-- the note of the last answer of a run: that it is such an order
abbrev pub last_note : ℕ → Option Answer → List ℕ
last_note required None = []
last_note required (Some (answer.Anomaly a)) = []
last_note required (Some (answer.Commit c)) = order_note required (length c.order)

-- no slice is within the small limits
abbrev pub no_slice_note : List ℕ
no_slice_note = codes "--slice: no history within the limits of one without --large has this anomaly\n"

-- what is said of the first write of the value, by the kind of the fault
abbrev pub write_told : ReadFaultKind → List ℕ
write_told read_kind.Duplicate = codes " wrote it before"
write_told read_kind.BrokenInternal = codes " wrote it, and the reader another value before"
write_told read_kind.ThinAir = codes " wrote it"
write_told read_kind.Aborted = codes " wrote it, in a transaction that aborted"
write_told read_kind.Intermediate = codes " wrote it, and wrote the key again in its transaction"
write_told read_kind.Future = codes " wrote it, later in the transaction"

-- SESSION/PLACE op I, and what is said of this write; or that there is none
abbrev pub writer_told : ReadFaultKind → Option Site → List ℕ
writer_told kind None = codes "nobody wrote it"
writer_told kind (Some write) =
    place_text write.stand.name write.stand.place ++ (codes " op " ++ (decimal (at write) ++ write_told kind))

-- the fault, and what is said of the first write of its value at its key
abbrev pub read_note : Sessions → ReadFault → List ℕ
read_note s fault =
    read_fault_told fault ++ (codes ": " ++ (writer_told fault.kind (writer (stands s) fault.key fault.value) ++ codes "\n"))

-- the notes of the first five read faults
abbrev pub read_notes : Sessions → List ReadFault → List (List ℕ)
read_notes s faults = map (read_note s) (take 5 faults)

-- the notes of what the resolver answered: none where each read has a source, or memory was refused
abbrev pub resolved_notes : {T : Type 0} → Sessions → Result T ResolveFault → List (List ℕ)
resolved_notes s (Ok resolved) = []
resolved_notes s (Err (unresolved.Reads faults)) = read_notes s faults.items
resolved_notes s (Err unresolved.NoMemory) = []
