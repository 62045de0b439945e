-- What a slice has.
use Rattle.std.specs.Prelude.{ℕ, ◌≡◌, ◌+◌, ◌<◌, List, [], length, map, slice_index_or}
use Rattle.tcc_txn.specs.Snapshots.{Sessions}
use Rattle.tcc_reads.specs.Faults.{read_faults}
use Rattle.tcc_reads.specs.History.{History, count}
use Rattle.tcc_reads.specs.Sites.{Stand, stands}
use Rattle.tcc_reads.specs.Sources.{history}
use Rattle.tcc_graph.specs.Links.{IsLink, link_cost}
use Rattle.tcc_graph.specs.declared.level.Level.{Level}
use Rattle.tcc_graph.specs.declared.link.Link.{Link}
use Rattle.tcc_graph.specs.Renumbered.{link_by}
use Rattle.tcc_graph.specs.Levels.{judged}
use Rattle.tcc_graph.specs.Routes.{AreCycle}
use Rattle.tcc_graph.specs.Operations.{source_value}
use Rattle.tcc_slices.specs.Cuts.{IsLeftAt}
use Rattle.tcc_slices.specs.Needs.{IsNothingSpare}

-- by a map of numbers, which rises, each transaction of the first history has one in the second. At each level each link of the
-- first is a link of the second, of the same cost
pub record IsCarried (f : ℕ → ℕ) (small : History) (large : History) : Type 0 where
  pub initial : f 0 ≡ 0
  pub within : (n : ℕ) → n < count small → f n < count large
  pub rises : (m : ℕ) (n : ℕ) → m < n → n < count small → f m < f n
  pub links : (level : Level) (l : Link) → IsLink (judged small level) l
      → IsLink (judged large level) (link_by f l) × (link_cost (link_by f l) ≡ link_cost l)

-- the slice of a whole, which has this history, by the links of a cycle. It is a snapshot whose reads are resolved, and each link of
-- which is, by a map of numbers, one of the whole. The transaction of each number, from 1 on, is left of the one that the map gives. By that map a cycle of
-- the slice at the level is these links; and it has nothing that this cycle doesn't need, by the values that the whole shows
pub record IsSliceOf (level : Level) (whole : Sessions) (h : History) (links : List Link) (s : Sessions) : Type 0 where
  pub resolved : read_faults s ≡ []
  pub number : ℕ → ℕ
  pub carried : IsCarried number (history s) h
  pub left : (i : ℕ) (d : Stand) → i < length (stands s) → IsLeftAt whole h (number (i + 1)) (slice_index_or (stands s) i d)
  pub own : List Link
  pub cycle : AreCycle (judged (history s) level) own
  pub same : map (link_by number) own ≡ links
  pub needed : IsNothingSpare (λ n key. source_value whole h (number n) key) own s
