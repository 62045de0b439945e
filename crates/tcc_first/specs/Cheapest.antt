-- The cheapest link between two transactions, and the first of those.
use Rattle.std.specs.Prelude.{ℕ, ◌≤◌, ◌≡◌, ◌≢◌}
use Rattle.std.specs.declared.cmp.Ordering.TheVariants.{Greater}
use Rattle.tcc_graph.specs.Levels.{Judged}
use Rattle.tcc_graph.specs.Links.{IsLink, link_cost, link_from, link_to}
use Rattle.tcc_graph.specs.Ties.{link_cmp}
use Rattle.tcc_graph.specs.declared.link.Link.{Link}

-- a link from u to v
pub record IsLinkFrom (j : Judged) (u : ℕ) (v : ℕ) (l : Link) : Type 0 where
  pub from : link_from l ≡ u
  pub to : link_to l ≡ v
  pub link : IsLink j l

-- none costs less, and it is the first of those that cost as much
pub record IsFirstCheapest (j : Judged) (u : ℕ) (v : ℕ) (l : Link) : Type 0 where
  pub leads : IsLinkFrom j u v l
  pub least : (other : Link) → IsLinkFrom j u v other → link_cost l ≤ link_cost other
  pub first : (other : Link) → IsLinkFrom j u v other → link_cost other ≡ link_cost l → link_cmp l other ≢ Greater
