-- What is said of a history is the line of what a run for it writes.
use Rattle.std.proofs.Common.{◌≡◌, ℕ, true, List, [], Some, None, refl, sym, subst, inl, inr, codes}
use Rattle.tcc_print.proofs.Courses.{nothing_read}
use Rattle.tcc_print.specs.declared.options.Options.{Options}
use Rattle.tcc_print.specs.Printed.{memory_line}
use Rattle.tcc_run.specs.private.Stages as small
use Rattle.tcc_run.proofs.Runs as small_runs
use Rattle.tcc_txn.specs.declared.limits.Limits.{Limits}
use Rattle.tcc_txn.specs.declared.limits.Limits.TheVariants.{Small, Large}
use Rattle.tcc_watch_run.specs.Watching.{checkpoints_of}
use Rattle.tcc_watch_run.specs.private.Stages as large
use Rattle.tcc_watch_run.proofs.Runs as large_runs
use Rattle.tcc_batch.specs.Findings.{IsFinding, IsFoundIn, IsWritten, IsWrittenWithin, options_of}
use Rattle.tcc_batch.specs.declared.finding.Finding.{Finding}
use Rattle.tcc_batch.specs.declared.finding.Finding.TheVariants.{NoMemory}
use Rattle.tcc_batch.specs.declared.judging.BatchOptions.{BatchOptions}

-- a run for which memory is out before it reads writes the line `memory`
memory_written : (asked : BatchOptions) (limits : Limits) (bytes : List ℕ) → IsWrittenWithin limits (options_of asked) bytes (codes "memory\n") 5
memory_written asked Small bytes =
    small_runs.no_slice (options_of asked) bytes (Some []) (Some (codes "memory\n")) None None None 5
    (small_runs.early Small (options_of asked) bytes (Some []) (Some (codes "memory\n")) (record { certificate = None; slice = None }) 5
    (nothing_read (small.course Small (options_of asked)) bytes (Some []) (Some (codes "memory\n")) 5 (inl (refl, refl))))
memory_written asked Large bytes =
    large_runs.early true (options_of asked) bytes (Some []) (Some (codes "memory\n")) 5
    (nothing_read (large.course true (options_of asked) (checkpoints_of bytes)) bytes (Some []) (Some (codes "memory\n")) 5 (inl (refl, refl)))

no_memory : (asked : BatchOptions) (bytes : List ℕ) → IsFinding asked bytes NoMemory
no_memory asked bytes = (codes "memory\n", memory_written asked asked.limits bytes, refl)

pub found : (asked : BatchOptions) (bytes text : List ℕ) (code : ℕ) (finding : Finding) → IsWritten asked bytes text code
    → IsFoundIn text code finding → IsFinding asked bytes finding
found asked bytes text code finding written (inl (line, by)) = (text, subst (λ n. IsWritten asked bytes text n) (sym by) written, line)
found asked bytes text code finding written (inr is) = subst (IsFinding asked bytes) (sym is) (no_memory asked bytes)
