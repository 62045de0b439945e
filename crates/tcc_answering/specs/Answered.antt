-- The first answer for a snapshot of any size at a level.
use Rattle.std.specs.Prelude.{◌≡◌, []}
use Rattle.tcc_txn.specs.Snapshots.{Sessions}
use Rattle.tcc_reads.specs.Faults.{read_faults}
use Rattle.tcc_reads.specs.Sources.{history}
use Rattle.tcc_graph.specs.Levels.{judged}
use Rattle.tcc_graph.specs.declared.level.Level.{Level}
use Rattle.tcc_answering.specs.Firsts.{IsFirst}
use Rattle.tcc_answering.specs.declared.answering.Answered.{Answered}

-- all its reads have sources; its history, and the first commit order of that or the first of its least cycles
abbrev pub IsAnswered : Level → Sessions → Answered → Type 0
IsAnswered level s a = (read_faults s ≡ []) × (a.graph ≡ history s) × IsFirst (judged (history s) level) a.first
