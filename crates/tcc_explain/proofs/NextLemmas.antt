-- The links of an earlier cycle, as a snapshot's graph has them.
use Rattle.std.proofs.Common.{ℕ, ◌≡◌, ◌∙◌, List, map, All, ap, subst}
use Rattle.tcc_txn.specs.Snapshots.{Sessions}
use Rattle.tcc_reads.specs.History.{History}
use Rattle.tcc_reads.specs.Sources.{history}
use Rattle.tcc_graph.specs.Levels.{Judged, judged}
use Rattle.tcc_graph.specs.Links.{IsLink}
use Rattle.tcc_graph.specs.declared.level.Level.{Level}
use Rattle.tcc_graph.specs.declared.link.Link.{Link}
use Rattle.tcc_answer.specs.Answers.{LabelledCycle}
use Rattle.tcc_graph.specs.Labels.{labels_of}
use Rattle.tcc_slices.specs.Growth.{IsFirstMissing}
use Rattle.tcc_slices.specs.Moved.{moved}
use Rattle.tcc_graph.specs.Renumbered.{link_by}
use Rattle.tcc_explain.specs.Explained.{IsAnswerOfHistory}
use Rattle.tcc_explain.specs.Next.{links_in}
use Rattle.tcc_answer.specs.declared.answer.Answer.{Answer}

module _ (s : Sessions) (e : LabelledCycle) (h : History) (graph : h ≡ history s) (level : Level) (of : level ≡ e.level) where
  -- a fact of the graph's history at the level is one of the snapshot's at that of the anomaly
  there : (P : Judged → Type 0) → P (judged h level) → P (judged (history s) e.level)
  there P is =
      subst (λ (k : History). P (judged k e.level)) graph (subst (λ (l : Level). P (judged h l)) of is)

  pub answer_here : (a : Answer) → IsAnswerOfHistory (judged h level) a → IsAnswerOfHistory (judged (history s) e.level) a
  answer_here a = there (λ (j : Judged). IsAnswerOfHistory j a)

  module _ (old new : List (List ℕ)) (before found links : List Link) (labels : old ≡ e.labels) (lent : before ≡ e.links) (named : new ≡ labels_of h)
      (carried : found ≡ map (link_by (moved old new)) before) (given : links ≡ found) where
    all : links ≡ links_in e s
    all =
        given ∙ (carried ∙ (ap (λ (ls : List Link). map (link_by (moved old new)) ls) lent
        ∙ (ap (λ (names : List (List ℕ)). map (link_by (moved names new)) e.links) labels
        ∙ ap (λ (names : List (List ℕ)). map (link_by (moved e.labels names)) e.links) (named ∙ ap labels_of graph))))

    pub missing_here : (n : ℕ) → IsFirstMissing (judged h level) links n → IsFirstMissing (judged (history s) e.level) (links_in e s) n
    missing_here n is = subst (λ (ls : List Link). IsFirstMissing (judged (history s) e.level) ls n) all (there (λ (j : Judged). IsFirstMissing j links n) is)

    pub links_here : All (IsLink (judged h level)) links → All (IsLink (judged (history s) e.level)) (links_in e s)
    links_here are = subst (λ (ls : List Link). All (IsLink (judged (history s) e.level)) ls) all (there (λ (j : Judged). All (IsLink j) links) are)
