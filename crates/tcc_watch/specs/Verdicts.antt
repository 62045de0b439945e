-- The verdict of a snapshot.
use Rattle.std.specs.Prelude.{◌≡◌, ◌≢◌, []}
use Rattle.tcc_txn.specs.Snapshots.{Sessions}
use Rattle.tcc_reads.specs.Faults.{read_faults}
use Rattle.tcc_reads.specs.Sources.{history}
use Rattle.tcc_graph.specs.Levels.{judged}
use Rattle.tcc_graph.specs.Routes.{HasCycle}
use Rattle.tcc_graph.specs.declared.level.Level.{Level}
use Rattle.tcc_watch.specs.declared.verdict.WatchVerdict.{WatchVerdict}
use Rattle.tcc_watch.specs.declared.verdict.WatchVerdict.TheVariants as verdict

-- at the level the history of the snapshot has no cycle; or it has one; or the snapshot has no history, since it has read faults
abbrev pub IsVerdict : Sessions → Level → WatchVerdict → Type 0
IsVerdict s level verdict.Consistent = (read_faults s ≡ []) × (HasCycle (judged (history s) level) → ⊥)
IsVerdict s level verdict.Anomaly = (read_faults s ≡ []) × HasCycle (judged (history s) level)
IsVerdict s level verdict.Unresolved = read_faults s ≢ []
