-- What is known of a link, and of a walk whose steps came one by one, so that they need not be held.
use Rattle.std.specs.Prelude.{ℕ, ◌≡◌, ◌↔◌, List, All, Some, IsTrue, length}
use Rattle.tcc_reads.specs.History.{History, count}
use Rattle.tcc_graph.specs.Levels.{Judged}
use Rattle.tcc_graph.specs.Links.{IsLink, link_cost, link_from, link_to}
use Rattle.tcc_graph.specs.Walks.{IsStepBelow, Leads}
use Rattle.tcc_graph.specs.declared.link.Link.{Link}
use Rattle.tcc_graph.specs.declared.step.Step.{Step}
use Rattle.tcc_rules.specs.declared.known.KnownLink.{KnownLink}
use Rattle.tcc_rules.specs.declared.known.KnownWalk.{KnownWalk}

-- of steps from there: how many they are, where they lead, if they do, and whether their numbers are below the count of transactions
pub record IsKnownWalk (h : History) (from : ℕ) (walk : List Step) (known : KnownWalk) : Type 0 where
  pub counted : known.steps ≡ length walk
  pub leads : (to : ℕ) → (known.end ≡ Some to) ↔ Leads h from to walk
  pub below : IsTrue known.are_below ↔ All (IsStepBelow (count h)) walk

-- of a link: where it begins and ends, whether it is one of the history at the level, and what it costs
pub record IsKnownLink (j : Judged) (link : Link) (known : KnownLink) : Type 0 where
  pub from : known.from ≡ link_from link
  pub to : known.to ≡ link_to link
  pub right : IsTrue known.is_link ↔ IsLink j link
  pub costs : known.cost ≡ link_cost link
