-- The answer for a snapshot at the level of an earlier anomaly, which it may continue.
use Rattle.std.specs.Prelude.{ℕ, ◌≡◌, All, List, [], map}
use Rattle.tcc_txn.specs.Snapshots.{Sessions}
use Rattle.tcc_reads.specs.Faults.{read_faults}
use Rattle.tcc_reads.specs.Sources.{history}
use Rattle.tcc_graph.specs.Levels.{Judged, judged}
use Rattle.tcc_graph.specs.Links.{IsLink}
use Rattle.tcc_graph.specs.Answers as first
use Rattle.tcc_graph.specs.declared.link.Link.{Link}
use Rattle.tcc_answer.specs.Answers.{LabelledCycle}
use Rattle.tcc_graph.specs.Labels.{labels_of}
use Rattle.tcc_answer.specs.declared.answer.Answer.{Answer}
use Rattle.tcc_slices.specs.Growth.{IsFirstMissing}
use Rattle.tcc_slices.specs.Moved.{moved}
use Rattle.tcc_graph.specs.Renumbered.{link_by}
use Rattle.tcc_explain.specs.Explained.{IsAnswerOfSnapshot}
use Rattle.tcc_reads.specs.Refusals.{IsRefusal}
use Rattle.tcc_reads.specs.declared.fault.ResolveFault.TheVariants as whole
use Rattle.tcc_explain.specs.declared.fault.NextFault.{NextFault}
use Rattle.tcc_explain.specs.declared.fault.NextFault.TheVariants as refusal

-- the links of an earlier cycle, with its labels replaced by the numbers of a snapshot's history
abbrev pub links_in : LabelledCycle → Sessions → List Link
links_in e s = map (link_by (moved e.labels (labels_of (history s)))) e.links

-- the answer at the level of the earlier cycle, whose links are all links of the snapshot's history
abbrev pub IsNextAnswer : Sessions → LabelledCycle → Answer → Type 0
IsNextAnswer s e a = IsAnswerOfSnapshot s e.level a × All (IsLink (judged (history s) e.level)) (links_in e s)

-- as for an answer on its own; or a link of the earlier cycle, the first that is reported, is not a link of the snapshot's history
abbrev pub IsNextRefusal : Sessions → LabelledCycle → NextFault → Type 0
IsNextRefusal s e (refusal.Reads faults) = IsRefusal s (whole.Reads faults)
IsNextRefusal s e refusal.NoMemory = Unit {0}
IsNextRefusal s e (refusal.NotNested link) = (read_faults s ≡ []) × IsFirstMissing (judged (history s) e.level) (links_in e s) link

-- what an anomaly says of a history at a level, apart from its tables: the first of the least cycles, and the labels
abbrev pub IsAnomalyOf : Judged → LabelledCycle → Type 0
IsAnomalyOf j a =
    ((s : ℕ) × first.IsFirstAnswer j (first.Cycle s a.links)) × (a.level ≡ j.level) × (a.labels ≡ labels_of j.history)
