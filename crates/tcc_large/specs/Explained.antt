-- The answer for a large snapshot at a level.
use Rattle.std.specs.Prelude.{◌≡◌, []}
use Rattle.tcc_txn.specs.Snapshots.{Sessions}
use Rattle.tcc_reads.specs.Faults.{read_faults}
use Rattle.tcc_reads.specs.Sources.{history}
use Rattle.tcc_graph.specs.declared.level.Level.{Level}
use Rattle.tcc_large.specs.Decisions.{IsDecision}
use Rattle.tcc_large.specs.declared.answer.LargeAnswer.{LargeAnswer}
use Rattle.tcc_graph.specs.Levels.{judged}

-- the history of the snapshot, all of whose reads have sources, and what is decided about it
abbrev pub IsLargeAnswer : Sessions → Level → LargeAnswer → Type 0
IsLargeAnswer s level a =
    (read_faults s ≡ []) × (a.graph ≡ history s) × IsDecision (judged (history s) level) a.decision
