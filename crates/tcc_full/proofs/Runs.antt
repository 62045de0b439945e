-- What a run does with its bytes, from what its stages tell.
use Rattle.std.proofs.Common.{◌≡◌, ℕ, ◌+◌, ◌≤◌, false, nat_le, List, [], ◌∷◌, ◌++◌, length, take, Option, None, Some, option_map, cond, Ok, Err, inl, inr, sym, ap, subst, ◌∙◌, arith, length-take-le}
use Rattle.std.specs.Prelude.{◌⊎◌, IfSome}
use Rattle.std.specs.Fmt.{option_append}
use Rattle.std.specs.Io.{appended_bytes}
use Rattle.std.specs.Io.KnownBytes.{Appends, Consumes}
use Rattle.std.proofs.KnownBytes.{Appends-nil}
use Rattle.std.proofs.lemmas.Bool.{cases_lt}
use Rattle.std.proofs.lemmas.List.{take-take, take_all}
use Rattle.std.proofs.lemmas.Bool.Decides.{nat_tests}
use Rattle.csv.specs.Reading.{default_config, records, strip_bom}
use Rattle.tcc_txn.specs.Limits.{most_bytes}
use Rattle.tcc_txn.specs.Snapshots.{Sessions}
use Rattle.tcc_txn.specs.declared.limits.Limits.{Limits}
use Rattle.tcc_rows.specs.Answers.{Answers, answers_to, answers_within, records_within}
use Rattle.tcc_rows.specs.ByteLimit.{marked, past_limit}
use Rattle.tcc_rows.specs.Failing.{FailsAtWithin}
use Rattle.tcc_rows.specs.Items.{finished_in}
use Rattle.tcc_rows.specs.Lines.{Record}
use Rattle.tcc_rows.specs.Reached.{record_at}
use Rattle.tcc_rows.specs.Recordings.{IsRecorded}
use Rattle.tcc_rows.specs.declared.fault.RowFault.{RowFault}
use Rattle.tcc_full.specs.declared.objects.ReportOptions.{ReportOptions}
use Rattle.tcc_full.specs.declared.finding.FoundAnswer.{FoundAnswer}
use Rattle.tcc_verdict.specs.Stopping.{NotesStop}
use Rattle.tcc_full.specs.FullAnswer.{IsFound}
use Rattle.tcc_full.specs.Notes.{AreNotesOf, IsNotedFull}
use Rattle.tcc_full.specs.Runs.{IsFullRun, TellsFault, TellsFound, TellsMemory, finished, within}

-- what a run does with the bytes, whatever it notes
run_of : (asked : ReportOptions) (required : ℕ) (bytes : List ℕ) (noted noted' before after : Option (List ℕ)) (code : ℕ)
    → IsNotedFull asked required bytes noted noted' before after code → IsFullRun asked required bytes before after code
run_of asked required bytes noted noted' before after code (inl (lawful, (found, is, notes, inl tells))) = inl (lawful, (found, is, tells))
run_of asked required bytes noted noted' before after code (inl (lawful, (found, is, notes, inr memory))) = inr (inr memory)
run_of asked required bytes noted noted' before after code (inr (inl (fault, is, notes, inl tells))) = inr (inl (fault, is, tells))
run_of asked required bytes noted noted' before after code (inr (inl (fault, is, notes, inr memory))) = inr (inr memory)
run_of asked required bytes noted noted' before after code (inr (inr (none, memory))) = inr (inr memory)

-- the same of a reader whose bytes may be known
pub runs_of : (asked : ReportOptions) (required : ℕ) (known noted noted' before after : Option (List ℕ)) (code : ℕ)
    → IfSome known (λ bytes. IsNotedFull asked required bytes noted noted' before after code)
    → IfSome known (λ bytes. IsFullRun asked required bytes before after code)
runs_of asked required None noted noted' before after code is = tt
runs_of asked required (Some bytes) noted noted' before after code is = run_of asked required bytes noted noted' before after code is

-- the records have a fault, with its note
pub stopped : (asked : ReportOptions) (required : ℕ) (bytes : List ℕ) (fault : RowFault) (noted noted' before after : Option (List ℕ)) (code : ℕ)
    → IsRecorded asked.limits bytes (Err fault)
    → NotesStop asked.limits fault (record_at fault.row (records_within asked.limits bytes)) noted noted'
    → TellsFault asked fault before after code ⊎ TellsMemory asked before after code
    → IsNotedFull asked required bytes noted noted' before after code
stopped asked required bytes fault noted noted' before after code is notes tells = inr (inl (fault, is, notes, tells))

-- what is found for all that they finish is noted, and reported
pub told : (asked : ReportOptions) (required : ℕ) (bytes : List ℕ) (s : Sessions) (found : FoundAnswer) (noted noted' before after : Option (List ℕ)) (code : ℕ)
    → IsRecorded asked.limits bytes (Ok s) → IsFound asked.level s found → AreNotesOf required s found noted noted'
    → TellsFound asked required (within asked.limits bytes) s found before after code ⊎ TellsMemory asked before after code
    → IsNotedFull asked required bytes noted noted' before after code
told asked required bytes s found noted noted' before after code whole is notes tells =
    inl (
      whole.0,
      (
        found,
        subst (λ (s : Sessions). IsFound asked.level s found) whole.1 is,
        subst (λ (s : Sessions). AreNotesOf required s found noted noted') whole.1 notes,
        subst (λ (s : Sessions). TellsFound asked required (within asked.limits bytes) s found before after code ⊎ TellsMemory asked before after code) whole.1 tells,
      ),
    )

-- memory is out, and nothing is noted
pub out_of_memory : (asked : ReportOptions) (required : ℕ) (bytes : List ℕ) (kept before after : Option (List ℕ)) (code : ℕ)
    → TellsMemory asked before after code → IsNotedFull asked required bytes kept kept before after code
out_of_memory asked required bytes kept before after code memory = inr (inr (Appends-nil kept, memory))

-- a fault of which nothing is noted
pub nothing_noted : (limits : Limits) (fault : RowFault) (fields : Record) (before after : Option (List ℕ)) → after ≡ before → NotesStop limits fault fields before after
nothing_noted limits fault fields before after same = record {
  noted = λ _. (0, subst (λ (o : Option (List ℕ)). Appends before o []) (sym same) (Appends-nil before));
  refused = λ _. same;
}

-- the reader failed after a text
pub failed_stop : (asked : ReportOptions) (text : List ℕ) (known whole : Option (List ℕ)) (fault : RowFault) (noted noted' before after : Option (List ℕ)) (code : ℕ)
    → whole ≡ option_append (Some text) known → IfSome whole (λ bytes. IsRecorded asked.limits bytes (Err fault))
    → IfSome whole (λ bytes. NotesStop asked.limits fault (record_at fault.row (records_within asked.limits bytes)) noted noted')
    → TellsFault asked fault before after code ⊎ TellsMemory asked before after code
    → IfSome known (λ rest. (required : ℕ) → IsNotedFull asked required (text ++ rest) noted noted' before after code)
failed_stop asked text None whole fault noted noted' before after code is recorded notes tells = tt
failed_stop asked text (Some rest) whole fault noted noted' before after code is recorded notes tells = λ required.
    stopped asked required (text ++ rest) fault noted noted' before after code
    (subst (λ (o : Option (List ℕ)). IfSome o (λ bytes. IsRecorded asked.limits bytes (Err fault))) is recorded)
    (subst (λ (o : Option (List ℕ)). IfSome o (λ bytes. NotesStop asked.limits fault (record_at fault.row (records_within asked.limits bytes)) noted noted')) is notes)
    tells

-- ---- the bytes past the limit

-- of bytes that are cut after the one after the limit the same goes through as of all
marked_cut : (limit : ℕ) (bytes : List ℕ) → marked limit (take (limit + 1) bytes) ≡ marked limit bytes
unfolding marked
marked_cut limit bytes = elim (cases_lt limit (length bytes)) [
  | inl past ↦
      let cut : length (take (limit + 1) bytes) ≡ limit + 1 = length-take-le (limit + 1) bytes (omega (arith, past)) in
      let over : nat_le (length (take (limit + 1) bytes)) limit ≡ false = grind (arith, nat_tests, cut) in
      let long : nat_le (length bytes) limit ≡ false = grind (arith, nat_tests, past) in
      rw (over, long) (ap (λ front. front ++ past_limit ∷ []) (take-take limit (limit + 1) bytes (omega arith)))
  | inr short ↦ ap (λ text. cond (nat_le (length text) limit) text (take limit text ++ past_limit ∷ [])) (take_all (limit + 1) bytes (omega (arith, short)))
]

-- ---- runs of bytes of which the same goes through

module _ (asked : ReportOptions) (some others : List ℕ) (same : marked (most_bytes asked.limits) some ≡ marked (most_bytes asked.limits) others) where
  records_alike : records_within asked.limits some ≡ records_within asked.limits others
  records_alike = ap (λ text. records default_config (strip_bom text)) same

  answers_alike : answers_within asked.limits some ≡ answers_within asked.limits others
  answers_alike = ap (answers_to asked.limits) records_alike

  pub recorded_alike : (fault : RowFault) → IsRecorded asked.limits some (Err fault) → IsRecorded asked.limits others (Err fault)
  recorded_alike fault (inl faulty) = inl (subst (λ (all : Answers). all.fault ≡ Some fault) answers_alike faulty)
  recorded_alike fault (inr (inl failed)) = inr (inl (failed.0, subst (FailsAtWithin asked.limits fault.row) records_alike failed.1))
  recorded_alike fault (inr (inr memory)) = inr (inr (memory.0, subst (λ (all : List Record). fault.row ≤ length all + 1) records_alike memory.1))

  pub run_alike : (required : ℕ) (noted noted' before after : Option (List ℕ)) (code : ℕ) → within asked.limits some ≡ within asked.limits others
      → IsNotedFull asked required some noted noted' before after code → IsNotedFull asked required others noted noted' before after code
  run_alike required noted noted' before after code cut (inl tells) =
      inl (subst (λ (all : Answers). (all.fault ≡ None) × ((found : FoundAnswer) × IsFound asked.level (finished_in all.items) found
      × AreNotesOf required (finished_in all.items) found noted noted'
      × (TellsFound asked required (within asked.limits others) (finished_in all.items) found before after code ⊎ TellsMemory asked before after code))) answers_alike
      (subst (λ (text : List ℕ). ((answers_within asked.limits some).fault ≡ None) × ((found : FoundAnswer) × IsFound asked.level (finished asked.limits some) found
      × AreNotesOf required (finished asked.limits some) found noted noted'
      × (TellsFound asked required text (finished asked.limits some) found before after code ⊎ TellsMemory asked before after code))) cut tells))
  run_alike required noted noted' before after code cut (inr (inl (fault, is, notes, tells))) =
      inr (inl (
        fault,
        recorded_alike fault is,
        subst (λ (all : List Record). NotesStop asked.limits fault (record_at fault.row all) noted noted') records_alike notes,
        tells,
      ))
  run_alike required noted noted' before after code cut (inr (inr memory)) = inr (inr memory)

-- bytes that were read up to the one after the limit
pub run_cut : (asked : ReportOptions) (required : ℕ) (bytes : List ℕ) (noted noted' before after : Option (List ℕ)) (code : ℕ)
    → IsNotedFull asked required (take (most_bytes asked.limits + 1) bytes) noted noted' before after code → IsNotedFull asked required bytes noted noted' before after code
run_cut asked required bytes noted noted' before after code is =
    let limit = most_bytes asked.limits in
    run_alike asked (take (limit + 1) bytes) bytes (marked_cut limit bytes) required noted noted' before after code (take-take limit (limit + 1) bytes (omega arith)) is

-- the bytes were read whole, up to the one after the limit
pub read_run : (asked : ReportOptions) (required : ℕ) (known : Option (List ℕ)) (limit : ℕ) (old text shown : List ℕ) (noted noted' before after : Option (List ℕ)) (code : ℕ)
    → limit ≡ most_bytes asked.limits + 1 → old ≡ [] → shown ≡ text → IfSome (option_map (take limit) known) (λ bytes. text ≡ old ++ bytes)
    → IsNotedFull asked required shown noted noted' before after code → IfSome known (λ bytes. IsNotedFull asked required bytes noted noted' before after code)
read_run asked required None limit old text shown noted noted' before after code up empty is whole run = tt
read_run asked required (Some bytes) limit old text shown noted noted' before after code up empty is whole run =
    run_cut asked required bytes noted noted' before after code
    (subst (λ (text : List ℕ). IsNotedFull asked required text noted noted' before after code)
    (is ∙ whole ∙ ap (λ front. front ++ take limit bytes) empty ∙ ap (λ n. take n bytes) up) run)

-- they were read up to where the reader failed
pub failed_run : (asked : ReportOptions) (required : ℕ) (known left : Option (List ℕ)) (limit : ℕ) (old text shown : List ℕ) (noted noted' before after : Option (List ℕ)) (code : ℕ)
    → limit ≡ most_bytes asked.limits + 1 → old ≡ [] → shown ≡ text → Consumes (option_map (take limit) known) left (appended_bytes old text)
    → IfSome left (λ rest. (required : ℕ) → IsNotedFull asked required (shown ++ rest) noted noted' before after code)
    → IfSome known (λ bytes. IsNotedFull asked required bytes noted noted' before after code)
failed_run asked required None left limit old text shown noted noted' before after code up empty is consumed run = tt
failed_run asked required (Some bytes) None limit old text shown noted noted' before after code up empty is consumed run = absurd consumed
failed_run asked required (Some bytes) (Some rest) limit old text shown noted noted' before after code up empty is consumed run =
    let whole : take limit bytes ≡ text ++ rest = consumed ∙ ap (λ front. appended_bytes front text ++ rest) empty in
    run_cut asked required bytes noted noted' before after code
    (subst (λ (text : List ℕ). IsNotedFull asked required text noted noted' before after code)
    (ap (λ front. front ++ rest) is ∙ sym whole ∙ ap (λ n. take n bytes) up) (run required))
