-- The links by which the way back is picked.
use Rattle.std.specs.Prelude.{ℕ, ◌≤◌, ◌≡◌, ◌≢◌, ◌+◌, ◌==◌, Option, Some, if◌then◌else◌}
use Rattle.std.specs.declared.cmp.Ordering.TheVariants.{Greater}
use Rattle.tcc_graph.specs.Levels.{Judged}
use Rattle.tcc_graph.specs.Links.{link_cost}
use Rattle.tcc_graph.specs.Ties.{link_cmp}
use Rattle.tcc_graph.specs.declared.link.Link.{Link}
use Rattle.tcc_derive.specs.Prices.{Tables, IsLinkOf, cost_at}
use Rattle.tcc_core.specs.Returns.{come_to}
use Rattle.tcc_core.specs.declared.first_return.FirstReturn.{FirstReturn}

-- what it costs to come to u: nothing at the start, else what the row has
abbrev pub spent : FirstReturn → ℕ → Option ℕ
spent back u = if u == back.start then Some 0 else come_to back u

-- the cost of coming to u is c, and with the cheapest link from there to v that is all that is left
pub record IsBefore (t : Tables) (back : FirstReturn) (v : ℕ) (left : ℕ) (u : ℕ) (c : ℕ) : Type 0 where
  pub come : spent back u ≡ Some c
  pub on : (k : ℕ) × (cost_at t u v ≡ Some k) × (c + k ≡ left)

-- a cheapest link from a to b, and the first of those with that cost
pub record IsFirstLink (j : Judged) (a : ℕ) (b : ℕ) (l : Link) : Type 0 where
  pub leads : IsLinkOf j a b l
  pub least : (other : Link) → IsLinkOf j a b other → link_cost l ≤ link_cost other
  pub first : (other : Link) → IsLinkOf j a b other → link_cost other ≡ link_cost l → link_cmp l other ≢ Greater
