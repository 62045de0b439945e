-- When it is claimed that a cycle of more than four steps is a least one.
use Rattle.std.specs.Prelude.{ℕ, List, Some}
use Rattle.tcc_reads.specs.History.{History}
use Rattle.tcc_graph.specs.declared.level.Level.{Level}
use Rattle.tcc_graph.specs.declared.link.Link.{Link}
use Rattle.tcc_cert.specs.LargeTexts.{HasLeastText}
use Rattle.tcc_cert.specs.RunsTold.{runs_told}
use Rattle.tcc_cert.specs.declared.large.LinksClaim.{LinksClaim}
use Rattle.tcc_judge.specs.Claims.{links_claim_of}
use Rattle.tcc_judge.specs.Verdicts.{cycle_rules}
use Rattle.tcc_rules.specs.Asked.{AllHold}

-- the claim that links are a least cycle, by the runs of an order
abbrev pub claim_by : Level → History → List Link → List ℕ → LinksClaim
claim_by level h links order = links_claim_of level h links (Some (runs_told h order))

-- the text has room for the runs, and the claim keeps all rules of the judge
abbrev pub IsProvable : History → LinksClaim → Type 0
IsProvable h claim = HasLeastText claim.least × AllHold (cycle_rules h claim)
