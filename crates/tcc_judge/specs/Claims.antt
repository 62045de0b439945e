-- Claims about links of a history.
use Rattle.std.specs.Prelude.{List, [], Option, None, Some}
use Rattle.tcc_reads.specs.History.{History, count}
use Rattle.tcc_graph.specs.Links.{cost}
use Rattle.tcc_graph.specs.declared.level.Level.{Level}
use Rattle.tcc_graph.specs.declared.link.Link.{Link}
use Rattle.tcc_cert.specs.declared.large.LinksClaim.{LinksClaim}
use Rattle.tcc_cert.specs.declared.large.Run.{Run}

-- the claim that links are a cycle; with runs, also that it is a least one
abbrev pub links_claim_of : Level → History → List Link → Option (List Run) → LinksClaim
links_claim_of level h links least = record { level = level; transactions = count h; links = links; cost = cost links; least = least }

-- that they are a cycle, and no more
abbrev pub cycle_claim_of : Level → History → List Link → LinksClaim
cycle_claim_of level h links = links_claim_of level h links None

-- that they are a least one, where no runs are needed
abbrev pub short_claim_of : Level → History → List Link → LinksClaim
short_claim_of level h links = links_claim_of level h links (Some [])
