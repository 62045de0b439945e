-- The outcome for a history and a certificate, from the outcome of each of their parts.
use Rattle.std.proofs.Common.{◌≡◌, ℕ, List, refl, sym, ap, subst, ◌∙◌, Bool, true, false, cond, Ok, Err, None, Some, Option, inl, inr}
use Rattle.std.specs.Prelude.{Result, IsErrAnd, IfSome}
use Rattle.tcc_rows.specs.Answers.{answers_within}
use Rattle.tcc_rows.specs.Items.{finished_in}
use Rattle.tcc_rows.specs.Recordings.{IsRecorded}
use Rattle.tcc_txn.specs.declared.limits.Limits.{Limits}
use Rattle.tcc_txn.specs.Snapshots.{Sessions}
use Rattle.tcc_rows.specs.declared.fault.RowFault.{RowFault}
use Rattle.tcc_reads.specs.Refusals.{IsRefusal}
use Rattle.tcc_reads.specs.declared.fault.ResolveFault.{ResolveFault}
use Rattle.tcc_reads.specs.declared.fault.ResolveFault.TheVariants as refusal
use Rattle.tcc_print.specs.declared.run_error.RunError.{RunError}
use Rattle.tcc_print.specs.declared.run_error.RunError.TheVariants.{Row, Reads, Text, NoMemory}
use Rattle.tcc_print.specs.RunErrors.{by_row, is_memory}
use Rattle.tcc_print.specs.private.RunErrors.{unresolved_by}
use Rattle.tcc_verdict.specs.Checking.{Check, IsOfRecords, MayBe}
use Rattle.tcc_verdict.specs.private.Stages.{IsMadeOf, IsResolution, MayBeOfText, MayBeResolution}

-- ---- what is made of the records

module _ {G : Type 0} (limits : Limits) (is_made : Sessions → G → Type 0) where
  -- the fault of the records, a reader that fails, or `NoMemory`
  pub unrecorded : (records : List ℕ) (fault : RowFault) (o : Result G RunError) → IsRecorded limits records (Err fault)
      → IsErrAnd o (λ why. why ≡ by_row fault) → IsMadeOf limits is_made records o
  unrecorded records fault (Ok made) stops is = absurd is
  unrecorded records fault (Err why) stops is =
      subst (λ u. IsMadeOf limits is_made records (Err u)) (sym is) (by_test (is_memory fault.kind) refl)
    where
      no_memory : true ≡ false → ⊥
      no_memory h = cc

      by_test : (b : Bool) → is_memory fault.kind ≡ b → IsMadeOf limits is_made records (Err (cond b NoMemory (Row fault)))
      by_test true e = tt
      by_test false e = elim stops [
        | inl faulty ↦ inl faulty
        | inr failed ↦ elim failed [
          | inl read ↦ inr read
          | inr memory ↦ absurd (no_memory (sym (ap is_memory memory.0) ∙ e))
        ]
      ]

  -- the outcome for the snapshot is that for the records
  pub of_snapshot : (records : List ℕ) (s : Sessions) (o : Result G RunError) → (answers_within limits records).fault ≡ None
      → s ≡ finished_in (answers_within limits records).items → MayBeResolution is_made s o → IsMadeOf limits is_made records o
  of_snapshot records s (Ok made) none same (inl is) = (none, subst (λ snapshot. IsResolution is_made snapshot (Ok made)) same is)
  of_snapshot records s (Err (Reads faults)) none same (inl is) =
      (none, subst (λ snapshot. IsResolution is_made snapshot (Err (Reads faults))) same is)
  of_snapshot records s (Err (Row fault)) none same (inl is) = absurd is
  of_snapshot records s (Err (Text fault)) none same (inl is) = absurd is
  of_snapshot records s (Err NoMemory) none same (inl is) = tt
  of_snapshot records s o none same (inr memory) = subst (IsMadeOf limits is_made records) (sym memory) tt

-- ---- what is made of a snapshot

module _ {G : Type 0} (is_made : Sessions → G → Type 0) (s : Sessions) where
  -- a refusal names all read faults
  pub refused : (fault : ResolveFault) (o : Result G RunError) → IsRefusal s fault → IsErrAnd o (λ why. why ≡ unresolved_by fault)
      → MayBeResolution is_made s o
  refused fault (Ok made) refuses is = absurd is
  refused (refusal.Reads faults) (Err why) refuses is =
      inl (subst (λ u. IsResolution is_made s (Err u)) (sym is) ((λ empty. refuses.1 (refuses.0 ∙ empty)), refuses.0))
  refused refusal.NoMemory (Err why) refuses is = inr (ap Err is)

  pub without_memory : (o : Result G RunError) → IsErrAnd o (λ why. why ≡ NoMemory) → MayBeResolution is_made s o
  without_memory (Ok made) is = absurd is
  without_memory (Err why) is = inr (ap Err is)

-- ---- both

module _ {G J : Type 0} (check : Check J) (is_made : Sessions → G → Type 0) where
  -- the outcome of the text, for what is made of the records, is that of both
  pub of_both : (records text : List ℕ) (made : G) (o : Result J RunError) → IsMadeOf check.limits is_made records (Ok made)
      → ((s : Sessions) → is_made s made → MayBeOfText check s text o) → MayBe check records text o
  of_both records text made o is judged = go (judged (finished_in (answers_within check.limits records).items) is.1.1)
    where
      go : MayBeOfText check (finished_in (answers_within check.limits records).items) text o → MayBe check records text o
      go (inl said) =
          inl (subst (λ fault. IsOfRecords check (answers_within check.limits records).items fault text o) (sym is.0) (inr (is.1.0, said)))
      go (inr memory) = inr (inr memory)

  -- the outcome for records of which nothing is made
  nothing_made : (records text : List ℕ) (why : RunError) → IsMadeOf check.limits is_made records (Err why) → MayBe check records text (Err why)
  nothing_made records text (Row fault) (inl is) =
      inl (subst (λ found. IsOfRecords check (answers_within check.limits records).items found text (Err (Row fault))) (sym is) refl)
  nothing_made records text (Row fault) (inr read) =
      inr (inl (fault.row, read.1, ap (λ k. Err (Row (record { row = fault.row; kind = k }))) read.0))
  nothing_made records text (Reads faults) is =
      inl (subst (λ found. IsOfRecords check (answers_within check.limits records).items found text (Err (Reads faults))) (sym is.0) (inl is.1))
  nothing_made records text (Text fault) is = absurd is
  nothing_made records text NoMemory is = inr (inr refl)

  pub nothing_made_by : (records text : List ℕ) (why : RunError) (o : Result J RunError)
      → IsMadeOf check.limits is_made records (Err why) → IsErrAnd o (λ u. u ≡ why) → MayBe check records text o
  nothing_made_by records text why (Ok judged) fails is = absurd is
  nothing_made_by records text why (Err u) fails is = subst (λ u. MayBe check records text (Err u)) (sym is) (nothing_made records text why fails)

-- ---- the text of a reader

-- what holds of every text holds of the text of a reader
pub for_any : (bytes : Option (List ℕ)) {P : List ℕ → Type 0} → ((text : List ℕ) → P text) → IfSome bytes P
for_any None all = tt
for_any (Some text) all = all text

-- what follows from two facts for every text follows for the text of a reader
pub from_two : (bytes : Option (List ℕ)) {P Q R : List ℕ → Type 0} → IfSome bytes P → IfSome bytes Q
    → ((text : List ℕ) → P text → Q text → R text) → IfSome bytes R
from_two None p q both = tt
from_two (Some text) p q both = both text p q
