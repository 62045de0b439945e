-- What is said of a snapshot, by the verdict of the watch.
use Rattle.std.proofs.Common.{◌≡◌, ◌≢◌, ◌+◌, ◌-◌, ◌∙◌, ℕ, Bool, true, false, List, None, ap, arith, inl, inr, length, nat_lt, refl, subst, sym}
use Rattle.std.specs.Prelude.{if◌then◌else◌}
use Rattle.std.specs.FinMap.{entries, len, len-entries}
use Rattle.std.proofs.lemmas.List.{length-map}
use Rattle.tcc_txn.specs.Snapshots.{Sessions}
use Rattle.tcc_txn.specs.Transactions.{Transaction}
use Rattle.tcc_reads.specs.History.{count}
use Rattle.tcc_reads.specs.Sources.{history}
use Rattle.tcc_watch.specs.Verdicts.{IsVerdict}
use Rattle.tcc_watch.specs.declared.verdict.WatchVerdict.TheVariants as verdict
use Rattle.tcc_print.specs.Courses.{AreSaidFaults, Said}
use Rattle.tcc_print.specs.Saying.{IsTold}
use Rattle.tcc_print.specs.Statuses.{code_of, order_status}
use Rattle.tcc_print.specs.declared.options.Options.{Options}
use Rattle.tcc_print.specs.declared.status.Status.{Status}
use Rattle.tcc_print.specs.declared.status.Status.TheVariants.{Anomaly, ReadFaults, Success, TooFew}
use Rattle.tcc_run.specs.LargeRuns.{IsExplained}
use Rattle.tcc_run.specs.declared.explained.Explained.{Explained}
use Rattle.tcc_watch_run.specs.Watching.{IsAnomaly, consistent_line, consistent_said, still_line, still_said}
use Rattle.tcc_watch_run.specs.declared.told.SnapshotAnswer.{SnapshotAnswer}
use Rattle.tcc_watch_run.specs.private.Stages.{IsAsExplained, Knows, KnowsNow, course, told_said}

-- the line of a consistent history, by the counts of what was taken
pub consistent_by : (options : Options) (s : Sessions) (text : List ℕ) (status : Status) (committed sessions : ℕ) → committed + 1 ≡ count (history s)
    → sessions ≡ len s → text ≡ consistent_line options.json committed sessions → status ≡ order_status options.required (committed + 1)
    → record { text = text; status = status; certificate = None } ≡ consistent_said options (history s)
consistent_by options s text status committed sessions counted all is ends =
    let number : committed ≡ count (history s) - 1 = omega (arith, counted) in
    let names : sessions ≡ length (history s).sessions
    = all ∙ len-entries s ∙ sym (length-map (entries s) (λ (named : List ℕ × List Transaction). named.0)) in
    let line : text ≡ consistent_line options.json (count (history s) - 1) (length (history s).sessions)
    = is ∙ (λ i. consistent_line options.json (number i) (names i)) in
    let end : status ≡ order_status options.required (count (history s)) = ends ∙ ap (order_status options.required) counted in
    λ i. record { text = line i; status = end i; certificate = None }

-- the same of one that still has an anomaly
pub still_by : (options : Options) (s : Sessions) (text : List ℕ) (status : Status) (committed sessions : ℕ) → committed + 1 ≡ count (history s)
    → sessions ≡ len s → text ≡ still_line options.json committed sessions → status ≡ Anomaly
    → record { text = text; status = status; certificate = None } ≡ still_said options (history s)
still_by options s text status committed sessions counted all is ends =
    let number : committed ≡ count (history s) - 1 = omega (arith, counted) in
    let names : sessions ≡ length (history s).sessions
    = all ∙ len-entries s ∙ sym (length-map (entries s) (λ (named : List ℕ × List Transaction). named.0)) in
    let line : text ≡ still_line options.json (count (history s) - 1) (length (history s).sessions)
    = is ∙ (λ i. still_line options.json (number i) (names i)) in
    λ i. record { text = line i; status = ends i; certificate = None }

-- ---- the read faults

-- no order ends a run as read faults do, and no anomaly
pub order_apart : (required numbers : ℕ) (status : Status) → status ≡ order_status required numbers → status ≢ ReadFaults
order_apart required numbers status is same = by (nat_lt (numbers - 1) required) (sym is ∙ same)
  where
    by : (few : Bool) → (if few then TooFew else Success) ≢ ReadFaults
    by true e = absurd (omega (arith, ap code_of e))
    by false e = absurd (omega (arith, ap code_of e))

pub anomaly_apart : Anomaly ≢ ReadFaults
anomaly_apart e = absurd (omega (arith, ap code_of e))

-- those of what explain --large says, without its certificate
pub explained_faults : (options : Options) (explained : Said) (told : SnapshotAnswer) → told_said told ≡ record explained { certificate = None }
    → AreSaidFaults options explained told.faults.items → AreSaidFaults options (told_said told) told.faults.items
explained_faults options explained told is (inl all) = inl (is ∙ ap (λ (said : Said). record said { certificate = None }) all)
explained_faults options explained told is (inr (apart, none)) = inr ((λ same. apart (sym (ap (λ (said : Said). said.status) is) ∙ same)), none)

abbrev pub told_of : Explained → Bool → SnapshotAnswer
told_of e has_told = record { text = e.text; status = e.status; faults = e.faults; has_told = has_told }

pub as_explained : (options : Options) (s : Sessions) (e : Explained) (has_told : Bool) → IsExplained options s e
    → IsAsExplained options s (told_of e has_told) × (has_told ≡ has_told) × AreSaidFaults options (told_said (told_of e has_told)) e.faults.items
as_explained options s e has_told (said, is, text, status, faults) =
    let same : told_said (told_of e has_told) ≡ record said { certificate = None } = (λ i. record { text = text i; status = status i; certificate = None }) in
    ((said, is, same), refl, explained_faults options said (told_of e has_told) same faults)

-- ---- what is said

module _ (options : Options) (checkpoints : List Sessions) (s : Sessions) (told : SnapshotAnswer) where
  -- where there is no anomaly what was known stays
  pub kept : (before after : Bool) → after ≡ before → (IsAnomaly options s → ⊥) → Knows options checkpoints s before → KnowsNow options checkpoints s after
  kept true after is none knows = subst (λ (b : Bool). KnowsNow options checkpoints s b) (sym is) (inr knows)
  kept false after is none knows = subst (λ (b : Bool). KnowsNow options checkpoints s b) (sym is) (none, knows)

  pub told_now : (after : Bool) → after ≡ true → IsAnomaly options s → KnowsNow options checkpoints s after
  told_now after is found = subst (λ (b : Bool). KnowsNow options checkpoints s b) (sym is) (inl found)

  pub consistent_told : (before : Bool) → IsVerdict s options.level verdict.Consistent → told_said told ≡ consistent_said options (history s)
      → told.has_told ≡ before → Knows options checkpoints s before → IsTold (course false options checkpoints) s told
  consistent_told before fine text known knows =
      (inl (fine, text), kept before told.has_told known (λ found. fine.1 found.1) knows)

  -- an anomaly after the first
  pub still_told : IsVerdict s options.level verdict.Anomaly → told_said told ≡ still_said options (history s) → told.has_told ≡ true
      → Knows options checkpoints s true → IsTold (course false options checkpoints) s told
  still_told found text known knows =
      (inr (inl ((found, knows), text)), told_now told.has_told known found)

  -- and the first
  pub anomaly_told : IsVerdict s options.level verdict.Anomaly → IsAsExplained options s told → told.has_told ≡ true
      → Knows options checkpoints s false → IsTold (course false options checkpoints) s told
  anomaly_told found (explained, said, text) known knows =
      (inr (inr ((λ fine. fine.1 found.1), (λ later. knows later.1), explained, said, text)), told_now told.has_told known found)

  pub unresolved_told : (before : Bool) → IsVerdict s options.level verdict.Unresolved → IsAsExplained options s told
      → told.has_told ≡ before → Knows options checkpoints s before → IsTold (course false options checkpoints) s told
  unresolved_told before found (explained, said, text) known knows = (
    inr (inr ((λ fine. found fine.0), (λ later. found later.0.0), explained, said, text)),
    kept before told.has_told known (λ anomaly. found anomaly.0) knows,
  )
