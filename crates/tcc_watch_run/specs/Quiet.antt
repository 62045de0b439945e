-- What explain --large says quietly of a snapshot, and what a run that does so does with the bytes of its records.
use Rattle.std.specs.Prelude.{ℕ, ◌≡◌, ◌⊎◌, List, Option, None}
use Rattle.std.specs.Io.KnownBytes.{Appends}
use Rattle.tcc_txn.specs.Snapshots.{Sessions}
use Rattle.tcc_txn.specs.declared.limits.Limits.TheVariants.{Large}
use Rattle.tcc_reads.specs.Sources.{history}
use Rattle.tcc_print.specs.Courses.{IsCourse, Said}
use Rattle.tcc_print.specs.Printed.{CutsOff}
use Rattle.tcc_print.specs.Statuses.{code_of}
use Rattle.tcc_print.specs.declared.options.Options.{Options}
use Rattle.tcc_run.specs.LargeRuns.{IsSaidWithLarge}
use Rattle.tcc_watch_run.specs.Watching.{IsConsistent, consistent_said}

-- what is said quietly of a snapshot. Of a consistent one it is how much that has, which is the first line of what explain --large says.
-- Of any other it is all that explain --large says, with no certificate
abbrev pub IsQuietlySaid : Options → Sessions → Said → Type 0
IsQuietlySaid options s said =
    (IsConsistent options s × (said ≡ consistent_said options (history s)))
    ⊎ ((IsConsistent options s → ⊥) × (explained : Said) × IsSaidWithLarge options s explained × (said ≡ record explained { certificate = None }))

-- what a run does with the bytes: what is said at each seal, and at the end where it is due, is written one after the other. The
-- status is that of the last
abbrev pub IsQuietRun : Options → List ℕ → Option (List ℕ) → Option (List ℕ) → ℕ → Type 0
IsQuietRun options bytes before after code =
    IsCourse Large (IsQuietlySaid options) options bytes
    (λ text last. (Appends before after text × (code ≡ code_of last.status)) ⊎ CutsOff before after text code)
