-- The rules on the links of a claim.
use Rattle.std.specs.Prelude.{ℕ, ◌<◌, ◌≤◌, ◌≡◌, List, [], All, MatchOption}
use Rattle.tcc_reads.specs.History.{History, count}
use Rattle.tcc_graph.specs.Levels.{judged}
use Rattle.tcc_cert.specs.CycleRules.{AreLinksRight, IsLinkBelow}
use Rattle.tcc_cert.specs.declared.large.LinksClaim.{LinksClaim}
use Rattle.tcc_cert.specs.declared.large.Run.{Run}
use Rattle.tcc_least.specs.Shapes.{IsRound, IsReturn}
use Rattle.tcc_judge.specs.Orders.{BreaksPair}
use Rattle.tcc_judge.specs.Runs.{AreWhole, order_of}

-- the links, at least one, are a cycle of the cost that is claimed
abbrev pub IsRightCycle : History → LinksClaim → Type 0
IsRightCycle h k = AreLinksRight (judged h k.level) k.cost k.links

-- the runs beside a claim that no cycle costs less: above a cost of 4 those of an order, else none
pub record AreNeededRuns (h : History) (most : ℕ) (runs : List Run) : Type 0 where
  pub whole : 4 < most → AreWhole h runs
  pub none : most ≤ 4 → runs ≡ []

-- the size is that of the history, each number of a link is below it, and the runs are those that are needed
pub record HasLinksSizes (h : History) (k : LinksClaim) : Type 0 where
  pub transactions : k.transactions ≡ count h
  pub links : All (IsLinkBelow (count h)) k.links
  pub least : MatchOption k.least (Unit {0}) (AreNeededRuns h k.cost)

-- up to a cost of 4: a round of fewer pairs, by one of its reads-from pairs
abbrev pub BreaksRound : History → ℕ → ℕ × ℕ → Type 0
BreaksRound h most at = (most ≤ 4) × IsRound h most at.0 at.1

-- where the cost is 4: a derived link of two steps with a pair back
abbrev pub BreaksReturn : History → ℕ → ℕ × ℕ → Type 0
BreaksReturn h most at = (most ≡ 4) × IsReturn h at.0 at.1

-- above a cost of 4: c reads from a, and a does not come before it in the order that the runs encode
abbrev pub BreaksOnward : History → ℕ → List Run → ℕ × ℕ → Type 0
BreaksOnward h most runs at = (4 < most) × BreaksPair h (order_of h runs) at
