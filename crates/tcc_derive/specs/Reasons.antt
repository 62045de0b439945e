-- The first of the cheapest derived links from one transaction to another at a level.
use Rattle.std.specs.Prelude.{ℕ, ◌≤◌, ◌≡◌, ◌≢◌}
use Rattle.std.specs.declared.cmp.Ordering.TheVariants.{Greater}
use Rattle.tcc_graph.specs.Levels.{Judged}
use Rattle.tcc_graph.specs.Links.{link_cost}
use Rattle.tcc_graph.specs.Ties.{link_cmp}
use Rattle.tcc_graph.specs.declared.link.Link.{Link}
use Rattle.tcc_derive.specs.Prices.{IsDerived}

-- a derived link from b to a; none costs less, and of those that cost as much it is the first by key, reader and walk
pub record IsFirstReason (j : Judged) (b : ℕ) (a : ℕ) (l : Link) : Type 0 where
  pub derived : IsDerived j b a l
  pub least : (other : Link) → IsDerived j b a other → link_cost l ≤ link_cost other
  pub first : (other : Link) → IsDerived j b a other → link_cost other ≡ link_cost l → link_cmp l other ≢ Greater
