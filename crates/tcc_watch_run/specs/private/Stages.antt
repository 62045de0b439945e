-- How the stages of a run follow one another.
use Rattle.std.specs.Prelude.{ℕ, ◌≡◌, ◌≢◌, ◌⊎◌, Bool, true, false, List, Option, None, Some, IfSome}
use Rattle.std.specs.Io.KnownBytes.{Appends}
use Rattle.tcc_txn.specs.Finished.{transaction_count}
use Rattle.tcc_txn.specs.Snapshots.{Sessions}
use Rattle.tcc_txn.specs.declared.limits.Limits.TheVariants.{Large}
use Rattle.tcc_run.specs.LargeRuns.{IsSaidWithLarge}
use Rattle.tcc_print.specs.Courses.{IsCourse, Said}
use Rattle.tcc_print.specs.Printed.{CutsOff}
use Rattle.tcc_print.specs.Saying.{Course}
use Rattle.tcc_print.specs.Statuses.{code_of}
use Rattle.tcc_print.specs.declared.previous.PreviousAnswer.{PreviousAnswer}
use Rattle.tcc_print.specs.declared.options.Options.{Options}
use Rattle.tcc_watch_run.specs.Quiet.{IsQuietlySaid}
use Rattle.tcc_watch_run.specs.Watching.{IsAnomaly, IsWatched, WasAnomaly, checkpoints_of}
use Rattle.tcc_watch_run.specs.declared.answering.Answerer.{Answerer}
use Rattle.tcc_watch_run.specs.declared.answering.Answerer.TheVariants as answerer
use Rattle.tcc_watch_run.specs.declared.following.Follower.{Follower}
use Rattle.tcc_watch_run.specs.declared.told.SnapshotAnswer.{SnapshotAnswer}

-- what is said
abbrev pub told_said : SnapshotAnswer → Said
told_said told = record { text = told.text.items; status = told.status; certificate = None }

-- it is what explain --large says, with no certificate
abbrev pub IsAsExplained : Options → Sessions → SnapshotAnswer → Type 0
IsAsExplained options s told = (explained : Said) × IsSaidWithLarge options s explained × (told_said told ≡ record explained { certificate = None })

-- one of the snapshots before this one was an anomaly, or none was
abbrev pub Knows : Options → List Sessions → Sessions → Bool → Type 0
Knows options checkpoints s true = WasAnomaly options checkpoints s
Knows options checkpoints s false = WasAnomaly options checkpoints s → ⊥

-- the same, with the snapshot itself among them
abbrev pub KnowsNow : Options → List Sessions → Sessions → Bool → Type 0
KnowsNow options checkpoints s true = IsAnomaly options s ⊎ WasAnomaly options checkpoints s
KnowsNow options checkpoints s false = (IsAnomaly options s → ⊥) × (WasAnomaly options checkpoints s → ⊥)

-- whether an anomaly was reported so far
abbrev pub was_told : Option (PreviousAnswer SnapshotAnswer) → Bool
was_told None = false
was_told (Some last) = last.outcome.has_told

-- if something was finished since, it is known whether an anomaly was reported before the snapshot
abbrev pub KnowsLast : Options → List Sessions → Sessions → Option (PreviousAnswer SnapshotAnswer) → Type 0
KnowsLast options checkpoints s last =
    IfSome last (λ last. last.transactions ≢ transaction_count s) → Knows options checkpoints s (was_told last)

-- what is said of a snapshot: quietly, or as a watch says it that answers of these
abbrev pub IsSaidBy : Bool → Options → List Sessions → Sessions → Said → Type 0
IsSaidBy true options checkpoints = IsQuietlySaid options
IsSaidBy false options checkpoints = IsWatched options checkpoints

-- whether it says each anomaly in full
abbrev pub is_quiet : Answerer → Bool
is_quiet (answerer.Watch follower) = false
is_quiet (answerer.Quiet quietly) = true

-- its watch
abbrev pub follower_of : Answerer → Follower
follower_of (answerer.Watch follower) = follower
follower_of (answerer.Quiet quietly) = quietly.follower

-- the course of a run that answers of these snapshots, quietly or not
abbrev pub course : Bool → Options → List Sessions → Course SnapshotAnswer
course quiet options checkpoints = record {
  limits = Large;
  options = options;
  is_said = IsSaidBy quiet options checkpoints;
  is_outcome = λ s told. KnowsNow options checkpoints s told.has_told;
  say = told_said;
}

-- what a run does with the bytes, quietly or as a watch
abbrev pub IsRunBy : Bool → Options → List ℕ → Option (List ℕ) → Option (List ℕ) → ℕ → Type 0
IsRunBy quiet options bytes before after code =
    IsCourse Large (IsSaidBy quiet options (checkpoints_of bytes)) options bytes
    (λ text last. (Appends before after text × (code ≡ code_of last.status)) ⊎ CutsOff before after text code)
