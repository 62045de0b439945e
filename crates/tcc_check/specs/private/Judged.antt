-- What the rules say of the tables of a claim, one after the other.
use Rattle.std.specs.Prelude.{ℕ, ◌≡◌, List, [], ◌∷◌, ◌++◌, length, map, All}
use Rattle.tcc_reads.specs.History.{History, count}
use Rattle.tcc_graph.specs.Levels.{judged as judged_at}
use Rattle.tcc_graph.specs.declared.level.Level.{Level}
use Rattle.tcc_graph.specs.declared.link.Link.{Link}
use Rattle.tcc_cert.specs.CycleRules.{HasRightSizes, IsLinkBelow, BreaksNearPair, BreaksNearStep, BreaksFarLink, BreaksFarStep, BreaksReturn}
use Rattle.tcc_cert.specs.Parts.{Parts, with_tables}
use Rattle.tcc_cert.specs.Tables.{row_of}
use Rattle.tcc_cert.specs.declared.certificate.CycleClaim.{CycleClaim}
use Rattle.tcc_cert.specs.declared.part.CycleHead.{CycleHead}
use Rattle.tcc_cert.specs.declared.part.Part.{Part}
use Rattle.tcc_cert.specs.declared.part.Part.TheVariants as part
use Rattle.tcc_cert.specs.declared.version.Version.{Version}
use Rattle.tcc_rules.specs.declared.judgement.Claim.TheVariants as claim
use Rattle.tcc_rules.specs.declared.judgement.Judgement.{Judgement}
use Rattle.tcc_check.specs.declared.near_rows.NearJudged.{NearJudged}
use Rattle.tcc_check.specs.declared.near_rows.NearRows.{NearRows}
use Rattle.tcc_check.specs.declared.adjacency.PairLists.{PairLists}
use Rattle.tcc_rules.specs.declared.verdict.Rule.{Rule}
use Rattle.tcc_rules.specs.declared.verdict.Rule.TheVariants.{Links, NearPairs, NearSteps, FarLinks, FarSteps, Returns}
use Rattle.tcc_rules.specs.declared.verdict.Verdict.{Verdict}
use Rattle.tcc_check.specs.private.Coming.{IsFarRight, IsNearFoundTo, near_verdict}
use Rattle.tcc_check.specs.private.Pairs.{AreOrderly}
use Rattle.tcc_check.specs.private.Runs.{AreRuns}
use Rattle.tcc_check.specs.Verdicts.{bounds_rules, cycle_rules}
use Rattle.tcc_rules.specs.Asked.{Asked, IsVerdictOf, at_each, of_links}
use Rattle.tcc_check.specs.private.WeightsFrom.{AreAllEnds, AreEndsTo, WeighsFrom}

-- the rule on links
abbrev pub links_rules : History → CycleClaim → List (Asked Rule)
links_rules h k = of_links Links (judged_at h k.level) k.least k.links ∷ []

-- the rules on lengths
abbrev pub near_rules : History → Level → List (List ℕ) → List (Asked Rule)
near_rules h level near = at_each NearPairs (BreaksNearPair h near) ∷ at_each NearSteps (BreaksNearStep h level near) ∷ []

-- those on costs
abbrev pub far_rules : History → Version → ℕ → List (List ℕ) → List (List ℕ) → List (Asked Rule)
far_rules h version least near far =
    at_each FarLinks (BreaksFarLink h version near far) ∷ at_each FarSteps (BreaksFarStep h version near far)
    ∷ at_each Returns (BreaksReturn h version least far) ∷ []

-- all but the rule on sizes
abbrev pub claim_rules : History → CycleClaim → List (Asked Rule)
claim_rules h k = of_links Links (judged_at h k.level) k.least k.links ∷ bounds_rules h k

-- what was found in the first rows of a table of lengths, and the links that they give
pub record AreNearRowsTo (h : History) (level : Level) (least : ℕ) (near : List (List ℕ)) (n : ℕ) (rows : NearRows) : Type 0 where
  pub found : IsNearFoundTo h level near n rows.faults
  pub links : AreEndsTo n (λ u. WeighsFrom h (row_of near u) u) (count h) least rows.links.items

-- what is kept of all of them
abbrev pub judged : PairLists → NearRows → NearJudged
judged pairs rows = record { verdict = near_verdict rows.faults.pair rows.faults.step; begins = pairs.begins; links = rows.links }

-- the links that a table of lengths gives
abbrev pub AreLinksOf : History → ℕ → List (List ℕ) → NearJudged → Type 0
AreLinksOf h least near judged = AreAllEnds (λ u. WeighsFrom h (row_of near u) u) (count h) least judged.links.items

-- the verdict of the rules on lengths, and those links
pub record IsNearJudged (h : History) (level : Level) (least : ℕ) (near : List (List ℕ)) (judged : NearJudged) : Type 0 where
  pub answer : IsVerdictOf (near_rules h level near) judged.verdict
  pub links : AreLinksOf h least near judged

-- whatever the table: where runs begin, and the ends of links from each transaction
pub record IsOrderly (h : History) (judged : NearJudged) : Type 0 where
  pub runs : AreRuns h judged.begins.items
  pub long : length judged.links.items ≡ count h
  pub links : AreOrderly (count h) judged.links.items

-- the numbers of the links are below the count of transactions, this is the verdict of the rule on links, and these parts come after them
pub record AreLinksJudged (h : History) (head : CycleHead) (links : List Link) (rest : Parts) (tables : List Part) (verdict : Verdict Rule) : Type 0 where
  pub below : All (IsLinkBelow (count h)) links
  pub answer : (near far : List (List ℕ)) → IsVerdictOf (links_rules h (with_tables head links near far)) verdict
  pub behind : rest.parts ≡ tables

-- where no part is left after the rows of costs, they are the whole table, and this is the verdict of the rules on them
pub record IsFarJudged (h : History) (version : Version) (least : ℕ) (near : List (List ℕ)) (far : List (List ℕ)) (rest : Parts)
    (verdict : Verdict Rule) : Type 0 where
  pub right : rest.parts ≡ [] → IsFarRight version (count h) least far × IsVerdictOf (far_rules h version least near far) verdict
  pub more : IsFarRight version (count h) least far → rest.parts ≡ []

-- the same for all rules after the one on sizes
pub record IsClaimJudged (h : History) (k : CycleClaim) (rest : Parts) (verdict : Verdict Rule) : Type 0 where
  pub right : rest.parts ≡ [] → HasRightSizes h k × IsVerdictOf (claim_rules h k) verdict
  pub more : HasRightSizes h k → rest.parts ≡ []

-- the verdict of all rules for a claim that a cycle is least, with the links and the tables that come
pub record IsCycleJudged (h : History) (head : CycleHead) (ahead : Parts) (judgement : Judgement) : Type 0 where
  pub same : judgement.claim ≡ claim.Cycle head.least
  pub answer : (links : List Link) (near far : List (List ℕ)) → length links ≡ head.links → length near ≡ head.count
      → ahead.parts ≡ map part.Link links ++ (map part.Near near ++ map part.Far far)
      → IsVerdictOf (cycle_rules h (with_tables head links near far)) judgement.verdict
