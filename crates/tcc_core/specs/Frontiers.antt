-- What the ways to the transactions outside a row cost, up to a limit.
use Rattle.std.specs.Prelude.{ℕ, ◌<◌, ◌≤◌, ◌≡◌, ◌≢◌, ◌+◌, ◌⊎◌, List, length, Option, None, Some, slice_index}
use Rattle.tcc_reads.specs.History.{count}
use Rattle.tcc_graph.specs.Levels.{Judged}
use Rattle.tcc_graph.specs.Links.{link_cost}
use Rattle.tcc_graph.specs.declared.link.Link.{Link}
use Rattle.tcc_derive.specs.Prices.{IsLinkOf}
use Rattle.tcc_core.specs.Rows.{in_row, cap_of, IsWithin}
use Rattle.tcc_core.specs.declared.queue.TheConstants.{NO_WAY}

-- the search has come to u at this cost: u is the start, or the row has it
abbrev pub HasCome : ℕ → List (Option ℕ) → ℕ → ℕ → Type 0
HasCome s row u c = ((u ≡ s) × (c ≡ 0)) ⊎ (in_row row u ≡ Some c)

-- from where the search has come to, a link leads on to v, which is not below s, and the whole way costs n
abbrev pub IsWay : Judged → ℕ → List (Option ℕ) → ℕ → ℕ → Type 0
IsWay j s row v n =
    (s ≤ v) × (u : ℕ) × (c : ℕ) × (l : Link) × HasCome s row u c × IsLinkOf j u v l × (c + link_cost l ≡ n)

-- For each transaction outside the row the costs have the cost of a way there, and no way within the limit costs less. The greatest number
-- of 64 bits is no limit.
pub record IsFrontier (j : Judged) (s : ℕ) (limit : ℕ) (row : List (Option ℕ)) (costs : List ℕ) : Type 0 where
  pub long : length costs ≡ count j.history
  pub attained : (v : ℕ) → v < count j.history → in_row row v ≡ None → slice_index costs v ≢ NO_WAY → IsWay j s row v (slice_index costs v)
  pub least : (v : ℕ) (n : ℕ) → in_row row v ≡ None → IsWay j s row v n → IsWithin (cap_of limit) n → (slice_index costs v < NO_WAY) × (slice_index costs v ≤ n)
