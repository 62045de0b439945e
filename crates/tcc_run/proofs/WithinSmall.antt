-- What a run of explain --large says about records within the small limits is what a run without it says.
use Rattle.std.proofs.Common.{ℕ, ◌≡◌, ◌≢◌, ◌⊎◌, ◌↔◌, Bool, true, false, cond, List, [], ◌∷◌, ◌++◌, None, Option}
use Rattle.std.proofs.Common.{length, take, drop, refl, sym, ap, subst, ◌∙◌, inl, inr, append_assoc, append-nil}
use Rattle.std.specs.List.{AllZip}
use Rattle.std.proofs.Math.Seq.{take-append_seam}
use Rattle.std.proofs.lemmas.List.{take-append-drop}
use Rattle.tcc_txn.specs.Finished.{KeepsLimits}
use Rattle.tcc_txn.specs.Snapshots.{Sessions}
use Rattle.tcc_txn.specs.declared.limits.Limits.TheVariants.{Small, Large}
use Rattle.tcc_rows.specs.Answers as rows
use Rattle.tcc_rows.specs.BothLimits.{KeepsSmall}
use Rattle.tcc_rows.specs.Items.{finished_in}
use Rattle.tcc_rows.specs.declared.rows.Item.{Item}
use Rattle.tcc_rows.specs.declared.rows.Item.TheVariants as item
use Rattle.tcc_rows.proofs.BothLimits.{fails-large, fails-small, same-before, same-kept}
use Rattle.tcc_print.specs.Courses.{AreSaid, Contents, IsEndedCourse, IsWholeCourse, MayEnd, Said}
use Rattle.tcc_print.specs.Checkpoints.{at_end, is_due_after, sealed_after, sealed_in}
use Rattle.tcc_print.specs.Statuses.{code_of}
use Rattle.tcc_print.specs.declared.run_error.RunError.{RunError}
use Rattle.tcc_print.specs.declared.run_error.RunError.TheVariants as error
use Rattle.tcc_print.specs.declared.options.Options.{Options}
use Rattle.tcc_print.specs.declared.status.Status.TheVariants.{Device, Memory}
use Rattle.tcc_run.specs.Runs as small
use Rattle.tcc_run.specs.LargeRuns as large
use Rattle.tcc_run.proofs.GoesOut.{goes_out}

-- ---- of one snapshot

pub said_small : (options : Options) (s : Sessions) (said : Said) → KeepsLimits s → large.IsSaidWithLarge options s said → small.IsSaidOfSnapshot options s said
said_small options s said keeps (inl (none, inl (kept, a, is, same))) = inl (none, a, is, same)
said_small options s said keeps (inl (none, inr (beyond, claim, is, room))) = absurd (beyond keeps)
said_small options s said keeps (inr faulty) = inr faulty

said_large : (options : Options) (s : Sessions) (said : Said) → KeepsLimits s → small.IsSaidOfSnapshot options s said → large.IsSaidWithLarge options s said
said_large options s said keeps (inl (none, a, is, same)) = inl (none, inl (keeps, a, is, same))
said_large options s said keeps (inr faulty) = inr faulty

pub said_alike : (options : Options) (s : Sessions) (said : Said) → KeepsLimits s → large.IsSaidWithLarge options s said ↔ small.IsSaidOfSnapshot options s said
said_alike options s said keeps = (said_small options s said keeps, said_large options s said keeps)

-- ---- of several

-- each of some snapshots keeps the small limits
abbrev AllKeep : List Sessions → Type 0
AllKeep [] = Unit {0}
AllKeep (s ∷ snapshots) = KeepsLimits s × AllKeep snapshots

-- whatever the first items finish keeps them
abbrev Fronts : List Item → Type 0
Fronts all = (front rest : List Item) → front ++ rest ≡ all → KeepsLimits (finished_in front)

sealed_keep : (all : List Item) → Fronts all → (items before : List Item) → before ++ items ≡ all → AllKeep (sealed_after before items)
sealed_keep all fronts [] before is = tt
sealed_keep all fronts (item.Finished session txn ∷ items) before is =
    sealed_keep all fronts items (before ++ item.Finished session txn ∷ []) (append_assoc before (item.Finished session txn ∷ []) items ∙ is)
sealed_keep all fronts (item.Unknown session txn ∷ items) before is =
    sealed_keep all fronts items (before ++ item.Unknown session txn ∷ []) (append_assoc before (item.Unknown session txn ∷ []) items ∙ is)
sealed_keep all fronts (item.Seal ∷ items) before is =
    (fronts before (item.Seal ∷ items) is, sealed_keep all fronts items (before ++ item.Seal ∷ []) (append_assoc before (item.Seal ∷ []) items ∙ is))
sealed_keep all fronts (item.End ∷ items) before is =
    sealed_keep all fronts items (before ++ item.End ∷ []) (append_assoc before (item.End ∷ []) items ∙ is)

all_keep : (snapshots : List Sessions) (due : Bool) (s : Sessions) → KeepsLimits s → AllKeep snapshots
    → AllKeep (snapshots ++ cond due (s ∷ []) [])
all_keep [] true s keeps all = (keeps, tt)
all_keep [] false s keeps all = tt
all_keep (first ∷ snapshots) due s keeps all = (all.0, all_keep snapshots due s keeps all.1)

each_said : (R Q : Sessions → Said → Type 0) → ((s : Sessions) (one : Said) → KeepsLimits s → R s one → Q s one)
    → (snapshots : List Sessions) (said : List Said) → AllKeep snapshots → AllZip R snapshots said → AllZip Q snapshots said
each_said R Q one [] [] keep all = tt
each_said R Q one [] (x ∷ said) keep all = absurd all
each_said R Q one (s ∷ snapshots) [] keep all = absurd all
each_said R Q one (s ∷ snapshots) (x ∷ said) keep all = (one s x keep.0 all.0, each_said R Q one snapshots said keep.1 all.1)

-- ---- of records

module _ (law : (text : List ℕ) (n : ℕ) → KeepsLimits (finished_in (take n (rows.answers_of text).items))) (options : Options) (records : List ℕ)
    (keeps : KeepsSmall records) where
  abbrev items : List Item
  items = (rows.answers_of records).items

  same : large.answers_of records ≡ rows.answers_of records
  same = same-kept records keeps

  first_keep : (n : ℕ) → Fronts (take n items)
  first_keep n front rest is =
      let whole : front ++ (rest ++ drop n items) ≡ items
      = sym (append_assoc front rest (drop n items)) ∙ ap (λ xs. xs ++ drop n items) is ∙ take-append-drop n items in
      subst (λ xs. KeepsLimits (finished_in xs)) (ap (take (length front)) (sym whole) ∙ take-append_seam front (rest ++ drop n items))
      (law records (length front))

  sealed : (n : ℕ) → AllKeep (sealed_in (take n items))
  sealed n = sealed_keep (take n items) (first_keep n) (take n items) [] refl

  answered : AllKeep (sealed_in items ++ at_end items)
  answered =
      subst (λ xs. AllKeep (sealed_in xs ++ at_end xs)) whole
      (all_keep (sealed_in (take (length items) items)) (is_due_after true (take (length items) items)) (finished_in (take (length items) items))
      (law records (length items)) (sealed (length items)))
    where
      whole : take (length items) items ≡ items
      whole = ap (take (length items)) (sym (append-nil items)) ∙ take-append_seam items []

  -- all that was said
  pub whole_small : (said : List Said) → IsWholeCourse (large.IsSaidWithLarge options) (large.answers_of records) said
      → IsWholeCourse (small.IsSaidOfSnapshot options) (rows.answers_of records) said
  whole_small said is =
      let here : IsWholeCourse (large.IsSaidWithLarge options) (rows.answers_of records) said
      = subst (λ (all : rows.Answers). IsWholeCourse (large.IsSaidWithLarge options) all said) same is in
      (here.0, (each_said (large.IsSaidWithLarge options) (small.IsSaidOfSnapshot options) (said_small options) (sealed_in items ++ at_end items) said answered here.1.0, here.1.1))

  whole_large : (said : List Said) → IsWholeCourse (small.IsSaidOfSnapshot options) (rows.answers_of records) said
      → IsWholeCourse (large.IsSaidWithLarge options) (large.answers_of records) said
  whole_large said is =
      subst (λ (all : rows.Answers). IsWholeCourse (large.IsSaidWithLarge options) all said) (sym same)
      (is.0, (each_said (small.IsSaidOfSnapshot options) (large.IsSaidWithLarge options) (said_large options) (sealed_in items ++ at_end items) said answered is.1.0, is.1.1))

  pub whole_alike : (said : List Said) → IsWholeCourse (large.IsSaidWithLarge options) (large.answers_of records) said
      ↔ small.IsWholeRun options (rows.answers_of records) said
  whole_alike said = (whole_small said, whole_large said)

  -- what was said before the run was ended
  may_small : (n : ℕ) (why : RunError) → MayEnd Large records n why → MayEnd Small records n why
  may_small n (error.Row fault) (inl (found, at)) =
      inl (ap (λ (a : rows.Answers). a.fault) (sym same) ∙ found, at ∙ ap (λ (a : rows.Answers). length a.items) same)
  may_small n (error.Row fault) (inr (read, fails, count)) =
      let here = fails-small records keeps fault.row fails in
      inr (read, here, count ∙ ap length (same-before records keeps fault.row here))
  may_small n error.NoMemory may = tt
  may_small n (error.Reads faults) may = absurd may
  may_small n (error.Text fault) may = absurd may

  may_large : (n : ℕ) (why : RunError) → MayEnd Small records n why → MayEnd Large records n why
  may_large n (error.Row fault) (inl (found, at)) =
      inl (ap (λ (a : rows.Answers). a.fault) same ∙ found, at ∙ ap (λ (a : rows.Answers). length a.items) (sym same))
  may_large n (error.Row fault) (inr (read, fails, count)) =
      inr (read, fails-large records keeps fault.row fails, count ∙ ap length (sym (same-before records keeps fault.row fails)))
  may_large n error.NoMemory may = tt
  may_large n (error.Reads faults) may = absurd may
  may_large n (error.Text fault) may = absurd may

  ended_small : (said : List Said) → IsEndedCourse Large (large.IsSaidWithLarge options) options records said
      → IsEndedCourse Small (small.IsSaidOfSnapshot options) options records said
  ended_small said (answers, (n, why, may, are, is)) =
      let here : AreSaid (large.IsSaidWithLarge options) (sealed_in (take n items)) answers
      = subst (λ (all : rows.Answers). AreSaid (large.IsSaidWithLarge options) (sealed_in (take n all.items)) answers) same are in (
        answers,
        (
          n,
          why,
          may_small n why may,
          (each_said (large.IsSaidWithLarge options) (small.IsSaidOfSnapshot options) (said_small options) (sealed_in (take n items)) answers (sealed n) here.0, here.1),
          is,
        ),
      )

  ended_large : (said : List Said) → IsEndedCourse Small (small.IsSaidOfSnapshot options) options records said
      → IsEndedCourse Large (large.IsSaidWithLarge options) options records said
  ended_large said (answers, (n, why, may, are, is)) = (
    answers,
    (
      n,
      why,
      may_large n why may,
      subst (λ (all : rows.Answers). AreSaid (large.IsSaidWithLarge options) (sealed_in (take n all.items)) answers) (sym same)
          (each_said (small.IsSaidOfSnapshot options) (large.IsSaidWithLarge options) (said_large options) (sealed_in (take n items)) answers (sealed n) are.0, are.1),
      is,
    ),
  )

  pub ended_alike : (said : List Said) → IsEndedCourse Large (large.IsSaidWithLarge options) options records said
      ↔ small.IsEndedRun options records said
  ended_alike said = (ended_small said, ended_large said)

  -- ---- what is written

  ends_small : (said : List Said)
      → IsWholeCourse (large.IsSaidWithLarge options) (large.answers_of records) said ⊎ IsEndedCourse Large (large.IsSaidWithLarge options) options records said
      → IsWholeCourse (small.IsSaidOfSnapshot options) (rows.answers_of records) said ⊎ IsEndedCourse Small (small.IsSaidOfSnapshot options) options records said
  ends_small said (inl whole) = inl (whole_small said whole)
  ends_small said (inr ended) = inr (ended_small said ended)

  ends_large : (said : List Said)
      → IsWholeCourse (small.IsSaidOfSnapshot options) (rows.answers_of records) said ⊎ IsEndedCourse Small (small.IsSaidOfSnapshot options) options records said
      → IsWholeCourse (large.IsSaidWithLarge options) (large.answers_of records) said ⊎ IsEndedCourse Large (large.IsSaidWithLarge options) options records said
  ends_large said (inl whole) = inl (whole_large said whole)
  ends_large said (inr ended) = inr (ended_large said ended)

  pub run_small : (before after : Option (List ℕ)) (files files' : large.Files) (code : ℕ) → large.IsLargeRun options records before after files files' code
      → code ≢ code_of Device → code ≢ code_of Memory → small.IsExplainRun options records before after files.certificate files'.certificate code
  run_small before after files files' code run fine space =
      let (said, last, ends, end, (out, gains, sliced, ends_by)) = goes_out Large (large.IsSaidWithLarge options) options records before after files files' code fine space run in
      (said, last, ends_small said ends, end, inl (out, gains, refl, ends_by))

  pub run_large : (before after : Option (List ℕ)) (file file' : Contents) (code : ℕ) → small.IsExplainRun options records before after file file' code
      → large.IsLargeRun options records before after (record { certificate = file; slice = None }) (record { certificate = file'; slice = None }) code
  run_large before after file file' code (said, last, ends, end, inl goes) = (said, last, ends_large said ends, end, inl goes)
  run_large before after file file' code (said, last, ends, end, inr (inl fails)) = (said, last, ends_large said ends, end, inr (inl fails))
  run_large before after file file' code (said, last, ends, end, inr (inr (between, out, inl stops))) =
      (said, last, ends_large said ends, end, inr (inr (between, out, inl stops)))
  run_large before after file file' code (said, last, ends, end, inr (inr (between, out, inr (gains, stops)))) = absurd (stops.0 refl)
