-- The notes of an outcome, from those of each stage.
use Rattle.std.proofs.Common.{◌≡◌, ℕ, List, [], ◌∷◌, Bool, true, false, cond, Option, Ok, Err, inl, inr, refl, sym, subst}
use Rattle.std.specs.Prelude.{Result, IsErrAnd}
use Rattle.std.proofs.KnownBytes.{Appends-nil}
use Rattle.std.specs.Io.KnownBytes.{Appends}
use Rattle.tcc_txn.specs.Snapshots.{Sessions}
use Rattle.tcc_txn.specs.declared.limits.Limits.{Limits}
use Rattle.tcc_rows.specs.Answers.{answers_within, records_within}
use Rattle.tcc_rows.specs.Items.{finished_in}
use Rattle.tcc_rows.specs.Lines.{Record}
use Rattle.tcc_rows.specs.Reached.{is_of_record, record_at}
use Rattle.tcc_rows.specs.declared.fault.RowFault.{RowFault}
use Rattle.tcc_rows.specs.declared.fault.RowFaultKind.{RowFaultKind}
use Rattle.tcc_rows.specs.declared.fault.RowFaultKind.TheVariants as row_kind
use Rattle.tcc_reads.specs.declared.fault.ResolveFault.{ResolveFault}
use Rattle.tcc_reads.specs.declared.fault.ResolveFault.TheVariants as refusal
use Rattle.tcc_print.specs.RunErrors.{by_row, is_memory}
use Rattle.tcc_print.specs.private.RunErrors.{unresolved_by}
use Rattle.tcc_print.specs.Notes.{AddsEach, IsNoted, read_notes, resolved_notes}
use Rattle.tcc_print.specs.declared.run_error.RunError.{RunError}
use Rattle.tcc_print.specs.declared.run_error.RunError.TheVariants.{Row, Reads, Text, NoMemory}
use Rattle.tcc_verdict.specs.Checking.{Check}
use Rattle.tcc_verdict.specs.Noting.{NotesRunError, NotesOutcome, snapshot_notes}
use Rattle.tcc_verdict.specs.Stopping.{NotesStop, stop_note}
use Rattle.tcc_verdict.specs.private.Stages.{IsCheckWithin, MayBeOfText, MayBeResolution}

module _ (before after : Option (List ℕ)) where
  -- where nothing was added, no more than a part of each was
  none_added : (texts : List (List ℕ)) → Appends before after [] → AddsEach before after texts
  none_added [] is = is
  none_added (text ∷ texts) is = (before, (0, Appends-nil before), none_added texts is)

  module _ {T : Type 0} (s : Sessions) where
    -- the notes of a refusal are those of the snapshot that it is about
    pub refusal_noted : (R : Type 0) (fault : ResolveFault) (o : Result T RunError) → IsErrAnd o (λ why. why ≡ unresolved_by fault)
        → AddsEach before after (resolved_notes {T = R} s (Err fault)) → AddsEach before after (snapshot_notes s o)
    refusal_noted R fault (Ok made) is noted = absurd is
    refusal_noted R (refusal.Reads faults) (Err why) is noted = subst (λ u. AddsEach before after (snapshot_notes {T = T} s (Err u))) (sym is) noted
    refusal_noted R refusal.NoMemory (Err why) is noted = subst (λ u. AddsEach before after (snapshot_notes {T = T} s (Err u))) (sym is) noted

    -- refused memory has none
    pub memory_noted : (o : Result T RunError) → IsErrAnd o (λ why. why ≡ NoMemory) → Appends before after [] → AddsEach before after (snapshot_notes s o)
    memory_noted (Ok made) is none = absurd is
    memory_noted (Err why) is none = subst (λ u. AddsEach before after (snapshot_notes {T = T} s (Err u))) (sym is) none

  -- where the fault is one of a record, the note shows the record at its row, if this was read last
  pub fault_shown : (limits : Limits) (fault : RowFault) (last fields : Record) → (is_of_record fault.kind ≡ true → last ≡ fields)
      → NotesStop limits fault last before after → NotesStop limits fault fields before after
  fault_shown limits fault last fields same stops = by_test (is_of_record fault.kind) refl
    where
      none : is_of_record fault.kind ≡ false → stop_note limits fault last ≡ stop_note limits fault fields
      none e = rw e refl

      by_test : (b : Bool) → is_of_record fault.kind ≡ b → NotesStop limits fault fields before after
      by_test true e = subst (λ shown. NotesStop limits fault shown before after) (same e) stops
      by_test false e = record { noted = λ some. subst (IsNoted before after) (none e) (stops.noted some); refused = stops.refused }

  -- ---- of the records

  module _ (limits : Limits) (records : List ℕ) where
    module _ {T : Type 0} where
      -- the fault of a record has its own note, and refused memory has none
      pub fault_noted : (fault : RowFault) (o : Result T RunError) → IsErrAnd o (λ why. why ≡ by_row fault)
          → NotesStop limits fault (record_at fault.row (records_within limits records)) before after → NotesOutcome limits records o before after
      fault_noted fault (Ok made) is stops = absurd is
      fault_noted fault (Err why) is stops =
          subst (λ u. NotesRunError limits records u before after) (sym is) (by_test (is_memory fault.kind) refl)
        where
          memory : (k : RowFaultKind) → is_memory k ≡ true → k ≡ row_kind.NoMemory
          memory row_kind.NoMemory e = refl
          memory _ e = cc e

          by_test : (b : Bool) → is_memory fault.kind ≡ b → NotesRunError limits records (cond b NoMemory (Row fault)) before after
          by_test true e = subst (λ now. Appends before now []) (sym (stops.refused (memory fault.kind e))) (Appends-nil before)
          by_test false e = stops

      -- the notes of the snapshot that they finish
      pub snapshot_noted : (is_made : Sessions → T → Type 0) (s : Sessions) (o : Result T RunError)
          → s ≡ finished_in (answers_within limits records).items → MayBeResolution is_made s o → AddsEach before after (snapshot_notes s o)
          → NotesOutcome limits records o before after
      snapshot_noted is_made s (Ok made) same may noted = noted
      snapshot_noted is_made s (Err (Reads faults)) same may noted = subst (λ snapshot. AddsEach before after (read_notes snapshot faults.items)) same noted
      snapshot_noted is_made s (Err (Text fault)) same may noted = noted
      snapshot_noted is_made s (Err NoMemory) same may noted = noted
      snapshot_noted is_made s (Err (Row fault)) same (inl is) noted = absurd is
      snapshot_noted is_made s (Err (Row fault)) same (inr memory) noted = let bad : ⊥ = cc memory in absurd bad

    -- ---- of both

    module _ {J : Type 0} where
      -- the notes of records of which nothing is made
      pub run_error_noted : (why : RunError) (o : Result J RunError) → IsErrAnd o (λ u. u ≡ why) → NotesRunError limits records why before after
          → NotesOutcome limits records o before after
      run_error_noted why (Ok judged) is noted = absurd is
      run_error_noted why (Err u) is noted = subst (λ v. NotesRunError limits records v before after) (sym is) noted

      -- a certificate adds none
      pub text_noted : (check : Check J) → IsCheckWithin limits check → (s : Sessions) (text : List ℕ) (o : Result J RunError) → MayBeOfText check s text o
          → Appends before after [] → NotesOutcome limits records o before after
      text_noted check within s text (Ok judged) may none = none
      text_noted check within s text (Err (Reads faults)) may none = none_added _ none
      text_noted check within s text (Err (Text fault)) may none = none
      text_noted check within s text (Err NoMemory) may none = none
      text_noted check within s text (Err (Row fault)) (inl is) none = absurd (within.passed s text fault is)
      text_noted check within s text (Err (Row fault)) (inr memory) none = let bad : ⊥ = cc memory in absurd bad
