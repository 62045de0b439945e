-- The link that is being read, with the steps of its walk so far.
use Rattle.std.specs.Prelude.{◌≡◌, List, Some}
use Rattle.tcc_reads.specs.History.{History}
use Rattle.tcc_graph.specs.Links.{link_from}
use Rattle.tcc_graph.specs.declared.link.Link.{Link}
use Rattle.tcc_graph.specs.declared.step.Step.{Step}
use Rattle.tcc_cert.specs.declared.large.LinksSizes.{LinksSizes}
use Rattle.tcc_rules.specs.Known.{IsKnownWalk}
use Rattle.tcc_judge.specs.Taken.{AreTaken}
use Rattle.tcc_judge.specs.declared.taken.TakenLinks.{TakenLinks}

-- these links were read, and then one without its walk, and these steps of it
pub record IsTaking (taken : TakenLinks) (h : History) (sizes : LinksSizes) (links : List Link) (head : Link) (walk : List Step) : Type 0 where
  pub so_far : AreTaken taken h sizes links
  pub begun : taken.head ≡ Some head
  pub known : IsKnownWalk h (link_from head) walk taken.walk
