-- The answers of two snapshots, where one continues the other.
use Rattle.std.proofs.Common.{ℕ, ◌≡◌, ◌≤◌, List, map, refl, subst}
use Rattle.tcc_txn.specs.Snapshots.{Sessions}
use Rattle.tcc_reads.specs.Sources.{history}
use Rattle.tcc_graph.specs.Links.{cost}
use Rattle.tcc_graph.specs.declared.level.Level.{Level}
use Rattle.tcc_answer.specs.Answers.{LabelledCycle}
use Rattle.tcc_graph.specs.Labels.{labels_of}
use Rattle.tcc_answer.specs.declared.answer.Answer.{Answer}
use Rattle.tcc_answer.specs.declared.answer.Answer.TheVariants as answer
use Rattle.tcc_slices.specs.Growth.{Grows, IsFirstMissing, link_in}
use Rattle.tcc_slices.specs.Moved.{moved}
use Rattle.tcc_graph.specs.Renumbered.{link_by}
use Rattle.tcc_slices.proofs.GrowthKeeps.{keeps_anomalies, costs_no_more, none_missing}
use Rattle.tcc_explain.specs.Explained.{IsAnswerOfHistory}
use Rattle.tcc_explain.specs.Next.{IsAnomalyOf, IsNextRefusal}
use Rattle.tcc_explain.specs.declared.fault.NextFault.TheVariants as refusal
use Rattle.tcc_graph.specs.Levels.{judged}

module _ (small large : Sessions) (level : Level) (a : LabelledCycle) (grows : Grows small large) where
  pub nested : (n : ℕ) → IsAnomalyOf (judged (history small) level) a → IsNextRefusal large a (refusal.NotNested n) → ⊥
  nested n is missing =
      let here : IsFirstMissing (judged (history large) level) (map (link_by (moved a.labels (labels_of (history large)))) a.links) n =
      subst (λ (l : Level). IsFirstMissing (judged (history large) l) (map (link_by (moved a.labels (labels_of (history large)))) a.links) n) is.1 missing.1 in
      let there : IsFirstMissing (judged (history large) level) (map (link_in small large) a.links) n =
      subst (λ (labels : List (List ℕ)). IsFirstMissing (judged (history large) level) (map (link_by (moved labels (labels_of (history large)))) a.links) n) is.2 here in
      none_missing small large grows level is.0.0 a.links n is.0.1.least.cycle there

  pub steps : (b : Answer) → IsAnswerOfHistory (judged (history small) level) (answer.Anomaly a) → IsAnswerOfHistory (judged (history large) level) b
      → (c : LabelledCycle) × (b ≡ answer.Anomaly c) × (cost c.links ≤ cost a.links)
  steps (answer.Commit o) here there = absurd (there.0.0 (keeps_anomalies small large grows level (here.0.0, a.links, here.0.1.least.cycle)))
  steps (answer.Anomaly c) here there = (c, refl, costs_no_more small large grows level here.0.0 a.links there.0.0 c.links here.0.1.least there.0.1.least)
