-- The answer for a snapshot at a level.
use Rattle.std.specs.Prelude.{ℕ, ◌≡◌, [], length}
use Rattle.tcc_txn.specs.Snapshots.{Sessions}
use Rattle.tcc_reads.specs.Faults.{read_faults}
use Rattle.tcc_reads.specs.Sources.{history}
use Rattle.tcc_graph.specs.Levels.{Judged, judged}
use Rattle.tcc_graph.specs.Links.{cost}
use Rattle.tcc_graph.specs.Answers as first
use Rattle.tcc_graph.specs.declared.level.Level.{Level}
use Rattle.tcc_graph.specs.Labels.{labels_of}
use Rattle.tcc_explain.specs.Certificates.{IsNearTable, IsFarTable, IsClocksAt}
use Rattle.tcc_answer.specs.declared.answer.Answer.{Answer}
use Rattle.tcc_answer.specs.declared.answer.Answer.TheVariants as answer
use Rattle.tcc_explain.specs.declared.explaining.Explanation.{Explanation}

-- The first answer for the history at the level, with its labels. Without a cycle it is the first commit order, with the clocks. Else it is
-- the first least cycle, with the distances, each capped at the cost of the cycle.
abbrev pub IsAnswerOfHistory : Judged → Answer → Type 0
IsAnswerOfHistory j (answer.Commit c) =
    first.IsFirstAnswer j (first.Order c.order) × (c.level ≡ j.level) × (c.sessions ≡ length j.history.sessions)
    × (c.labels ≡ labels_of j.history) × IsClocksAt j.level j.history c.clocks
IsAnswerOfHistory j (answer.Anomaly a) =
    ((s : ℕ) × first.IsFirstAnswer j (first.Cycle s a.links)) × (a.level ≡ j.level) × (a.labels ≡ labels_of j.history)
    × IsNearTable j (cost a.links) a.near × IsFarTable j (cost a.links) a.far

-- the first answer for the history of a snapshot at the level, where all its reads have sources
abbrev pub IsAnswerOfSnapshot : Sessions → Level → Answer → Type 0
IsAnswerOfSnapshot s level a = (read_faults s ≡ []) × IsAnswerOfHistory (judged (history s) level) a

-- such an answer, with the history of the snapshot
abbrev pub IsExplanation : Sessions → Level → Explanation → Type 0
IsExplanation s level e = (e.graph ≡ history s) × IsAnswerOfSnapshot s level e.answer

-- an answer says the first answer for the history at the level, with its labels, whatever its tables
abbrev pub IsBareAnswer : Judged → Answer → Type 0
IsBareAnswer j (answer.Commit c) =
    first.IsFirstAnswer j (first.Order c.order) × (c.level ≡ j.level) × (c.sessions ≡ length j.history.sessions) × (c.labels ≡ labels_of j.history)
IsBareAnswer j (answer.Anomaly a) =
    ((s : ℕ) × first.IsFirstAnswer j (first.Cycle s a.links)) × (a.level ≡ j.level) × (a.labels ≡ labels_of j.history)
