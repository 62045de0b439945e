-- The text of version 3: an order as runs, or a cycle by its links, line by line.
use Rattle.std.specs.Prelude.{ℕ, ◌≤◌, List, [], ◌∷◌, ◌++◌, length, map, All, Option, None, Some, codes, decimal, flat_map}
use Rattle.tcc_graph.specs.declared.level.Level.{Level}
use Rattle.tcc_graph.specs.declared.level.Level.TheVariants.{Causal, Atomic}
use Rattle.tcc_cert.specs.declared.ranges.TextFormat.TheVariants.{Large}
use Rattle.tcc_cert.specs.declared.version_3.TheConstants.{V3_MAX_COST, V3_MAX_NUMBER, V3_MAX_RUNS, V3_MAX_SESSION, V3_MAX_SESSIONS}
use Rattle.tcc_cert.specs.declared.large.LargeCertificate.{LargeCertificate}
use Rattle.tcc_cert.specs.declared.large.LargeCertificate.TheVariants as claim
use Rattle.tcc_cert.specs.declared.large.LinksClaim.{LinksClaim}
use Rattle.tcc_cert.specs.declared.large.Run.{Run}
use Rattle.tcc_cert.specs.declared.large.RunsClaim.{RunsClaim}
use Rattle.tcc_cert.specs.Texts.{Words, IsCount, HasLinkText, link_lines, lines_text}

-- the first line
abbrev pub large_header_words : Level → Words
large_header_words Causal = codes "tcc-certificate" ∷ codes "3" ∷ codes "causal" ∷ []
large_header_words Atomic = codes "tcc-certificate" ∷ codes "3" ∷ codes "atomic" ∷ []

-- `s k`: the next k transactions of session s
abbrev pub run_words : Run → Words
run_words run = decimal run.session ∷ decimal run.count ∷ []

-- the R runs, and the last line
abbrev pub runs_lines : List Run → List Words
runs_lines runs = map run_words runs ++ (codes "end" ∷ []) ∷ []

-- `order N S R`, and the runs
abbrev pub runs_claim_lines : RunsClaim → List Words
runs_claim_lines k =
    (codes "order" ∷ decimal k.transactions ∷ decimal k.sessions ∷ decimal (length k.runs) ∷ []) ∷ runs_lines k.runs

-- `least R` and the runs, where leastness is claimed, and the last line
abbrev pub least_lines : Option (List Run) → List Words
least_lines None = (codes "end" ∷ []) ∷ []
least_lines (Some runs) = (codes "least" ∷ decimal (length runs) ∷ []) ∷ runs_lines runs

-- `cycle N M L`, the M links, and what is claimed of leastness
abbrev pub links_claim_lines : LinksClaim → List Words
links_claim_lines k =
    (codes "cycle" ∷ decimal k.transactions ∷ decimal (length k.links) ∷ decimal k.cost ∷ []) ∷ (flat_map link_lines k.links ++ least_lines k.least)

-- the first line, and those after it
abbrev pub large_header_of : LargeCertificate → Words
large_header_of (claim.Order k) = large_header_words k.level
large_header_of (claim.Cycle k) = large_header_words k.level

abbrev pub large_claim_lines : LargeCertificate → List Words
large_claim_lines (claim.Order k) = runs_claim_lines k
large_claim_lines (claim.Cycle k) = links_claim_lines k

abbrev pub large_certificate_text : LargeCertificate → List ℕ
large_certificate_text certificate = lines_text (large_header_of certificate ∷ large_claim_lines certificate)

-- ---- the values that have a text

pub record HasRunText (run : Run) : Type 0 where
  pub session : run.session ≤ V3_MAX_SESSION
  pub some : 1 ≤ run.count
  pub count : run.count ≤ V3_MAX_NUMBER

pub record HaveRunsText (runs : List Run) : Type 0 where
  pub many : length runs ≤ V3_MAX_RUNS
  pub each : All HasRunText runs

abbrev pub HasLeastText : Option (List Run) → Type 0
HasLeastText None = Unit {0}
HasLeastText (Some runs) = HaveRunsText runs

pub record HasRunsClaimText (k : RunsClaim) : Type 0 where
  pub count : IsCount Large k.transactions
  pub sessions : k.sessions ≤ V3_MAX_SESSIONS
  pub runs : HaveRunsText k.runs

pub record HasLinksClaimText (k : LinksClaim) : Type 0 where
  pub count : IsCount Large k.transactions
  pub steps : IsCount Large (length k.links)
  pub links : All (HasLinkText Large) k.links
  pub cost : k.cost ≤ V3_MAX_COST
  pub least : HasLeastText k.least

abbrev pub HasLargeText : LargeCertificate → Type 0
HasLargeText (claim.Order k) = HasRunsClaimText k
HasLargeText (claim.Cycle k) = HasLinksClaimText k
