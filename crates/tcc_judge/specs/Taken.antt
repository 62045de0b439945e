-- The links of a claim, judged as they are read.
use Rattle.std.specs.Prelude.{◌≡◌, ◌↔◌, List, All, IsTrue}
use Rattle.tcc_reads.specs.History.{History, count}
use Rattle.tcc_graph.specs.Levels.{judged}
use Rattle.tcc_graph.specs.declared.link.Link.{Link}
use Rattle.tcc_cert.specs.CycleRules.{IsLinkBelow}
use Rattle.tcc_cert.specs.declared.large.LinksSizes.{LinksSizes}
use Rattle.tcc_rules.specs.Links.{AreJudged}
use Rattle.tcc_judge.specs.declared.taken.TakenLinks.{TakenLinks}

-- these links of a claim of these sizes were read and judged
pub record AreTaken (taken : TakenLinks) (h : History) (sizes : LinksSizes) (links : List Link) : Type 0 where
  pub graph : taken.graph.now ≡ h
  pub level : taken.level ≡ sizes.level
  pub below : IsTrue taken.are_below ↔ All (IsLinkBelow (count h)) links
  pub seen : AreJudged (judged h sizes.level) sizes.cost links taken.judge
