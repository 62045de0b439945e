-- What a snapshot keeps when it grows.
use Rattle.std.specs.Prelude.{ℕ, ◌≡◌, ◌+◌, ◌<◌, ◌≤◌, List, [], length, map, slice_index_or}
use Rattle.tcc_txn.specs.Finished.{KeepsLimits}
use Rattle.tcc_txn.specs.Nested.{IsNested}
use Rattle.tcc_txn.specs.Snapshots.{Sessions}
use Rattle.tcc_reads.specs.Faults.{read_faults}
use Rattle.tcc_reads.specs.History.{count}
use Rattle.tcc_reads.specs.Sources.{history}
use Rattle.tcc_graph.specs.Levels.{Judged, judged}
use Rattle.tcc_graph.specs.Links.{IsLink, link_cost, cost}
use Rattle.tcc_graph.specs.Numbers.{label}
use Rattle.tcc_graph.specs.Routes.{IsCycle, IsLeastCycle, HasCycle}
use Rattle.tcc_graph.specs.declared.level.Level.{Level}
use Rattle.tcc_graph.specs.declared.link.Link.{Link}
use Rattle.tcc_graph.specs.Labels.{labels_of}
use Rattle.tcc_slices.specs.Moved.{moved}
use Rattle.tcc_graph.specs.Renumbered.{link_by}

-- of two snapshots whose reads are resolved the second, which keeps the limits, continues the first
pub record Grows (small : Sessions) (large : Sessions) : Type 0 where
  pub nested : IsNested small large
  pub before : read_faults small ≡ []
  pub later : read_faults large ≡ []
  pub limits : KeepsLimits large

-- a number and a link of one snapshot, by their labels, in another
abbrev pub number_in : Sessions → Sessions → ℕ → ℕ
number_in small large = moved (labels_of (history small)) (labels_of (history large))

abbrev pub link_in : Sessions → Sessions → Link → Link
link_in small large = link_by (number_in small large)

-- each number has its label there
abbrev pub KeepsLabels : Sessions → Sessions → Type 0
KeepsLabels small large =
    (n : ℕ) → n < count (history small)
    → (number_in small large n < count (history large)) × (label (history large) (number_in small large n) ≡ label (history small) n)

-- by a map of numbers each link is a link there, and costs the same
abbrev pub CarriesLinks : (ℕ → ℕ) → Sessions → Sessions → Type 0
CarriesLinks f small large =
    (level : Level) (l : Link) → IsLink (judged (history small) level) l → IsLink (judged (history large) level) (link_by f l) × (link_cost (link_by f l) ≡ link_cost l)

-- and each cycle a cycle
abbrev pub CarriesCycles : (ℕ → ℕ) → Sessions → Sessions → Type 0
CarriesCycles f small large =
    (level : Level) (s : ℕ) (links : List Link) → IsCycle (judged (history small) level) s links
    → IsCycle (judged (history large) level) (f s) (map (link_by f) links) × (cost (map (link_by f) links) ≡ cost links)

-- so by their labels
abbrev pub KeepsLinks : Sessions → Sessions → Type 0
KeepsLinks small large = CarriesLinks (number_in small large) small large

abbrev pub KeepsCycles : Sessions → Sessions → Type 0
KeepsCycles small large = CarriesCycles (number_in small large) small large

-- where there is a cycle, there is one there
abbrev pub KeepsAnomalies : Sessions → Sessions → Type 0
KeepsAnomalies small large = (level : Level) → HasCycle (judged (history small) level) → HasCycle (judged (history large) level)

-- a least cycle there costs at most what one costs here
abbrev pub CostsNoMore : Sessions → Sessions → Type 0
CostsNoMore small large =
    (level : Level) (s : ℕ) (links : List Link) (t : ℕ) (others : List Link) → IsLeastCycle (judged (history small) level) s links
    → IsLeastCycle (judged (history large) level) t others → cost others ≤ cost links

-- of some links in the numbers of a history, the first that is no link of it, counted from 1
pub record IsFirstMissing (j : Judged) (links : List Link) (n : ℕ) : Type 0 where
  pub missing : Link
  pub before : ℕ
  pub within : before < length links
  pub number : n ≡ before + 1
  pub here : slice_index_or links before missing ≡ missing
  pub wrong : IsLink j missing → ⊥
  pub first : (i : ℕ) (d : Link) → i < before → IsLink j (slice_index_or links i d)
