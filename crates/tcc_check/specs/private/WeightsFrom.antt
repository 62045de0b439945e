-- Weights of the links from a transaction other than session pairs.
use Rattle.std.specs.Prelude.{ℕ, ◌<◌, ◌≤◌, ◌≡◌, ◌+◌, ◌⊎◌, List, [], length, slice_index, slice_index_or, Contains}
use Rattle.tcc_reads.specs.History.{History}
use Rattle.tcc_graph.specs.Links.{MayContradict}
use Rattle.tcc_graph.specs.Relations.{IsReadsPair}
use Rattle.tcc_check.specs.private.Weights.{AreByWeight}

-- a reads-from pair is a single step
abbrev pub ReadWeighs : History → ℕ → ℕ → ℕ → Type 0
ReadWeighs h u v w = (x : List ℕ) × IsReadsPair h u v x × (w ≡ 0)

-- c reads from v what u writes too, and the row of u has w for c
abbrev pub ContradictsBy : History → List ℕ → ℕ → ℕ → ℕ → Type 0
ContradictsBy h row u v w = (x : List ℕ) × (c : ℕ) × MayContradict h u v x c × (w ≡ slice_index row c)

abbrev pub WeighsFrom : History → List ℕ → ℕ → ℕ → ℕ → Type 0
WeighsFrom h row u v w = ReadWeighs h u v w ⊎ ContradictsBy h row u v w

-- v is one of these
abbrev pub MarkWeighs : List ℕ → ℕ → ℕ → Type 0
MarkWeighs readers v w = Contains readers v × (w ≡ 0)

-- v is between these
abbrev pub BetweenWeighs : ℕ → ℕ → ℕ → ℕ → Type 0
BetweenWeighs first end v w = (first ≤ v) × (v < end) × (w ≡ 0)

-- v is the source, and the row has w for one of these readers
abbrev pub SourceWeighs : ℕ → List ℕ → List ℕ → ℕ → ℕ → Type 0
SourceWeighs source readers row v w = (v ≡ source) × (c : ℕ) × Contains readers c × (w ≡ slice_index row c)

-- v, other than `init`, is read from, and the row has w for the reader
abbrev pub InitContradictsBy : History → List ℕ → ℕ → ℕ → Type 0
InitContradictsBy h row v w = (0 < v) × (x : List ℕ) × (c : ℕ) × IsReadsPair h v c x × (w ≡ slice_index row c)

-- the ends of lighter weights than the limit, with these, the lighter first
pub record AreLightEnds (weights : List ℕ) (least : ℕ) (ends : List (ℕ × ℕ)) : Type 0 where
  pub each : (v : ℕ) → v < length weights → slice_index weights v + 1 < least → Contains ends (v, slice_index weights v)
  pub only : (link : ℕ × ℕ) → Contains ends link → (link.0 < length weights) × (slice_index weights link.0 ≡ link.1) × (link.1 + 1 < least)
  pub sorted : AreByWeight ends

-- links are among these, and those that cost less than the limit have their least weights there, the lighter first
pub record AreEnds (weighs : ℕ → ℕ → Type 0) (n : ℕ) (least : ℕ) (ends : List (ℕ × ℕ)) : Type 0 where
  pub each : (v : ℕ) (w : ℕ) → v < n → weighs v w → w + 1 < least → (k : ℕ) × (k ≤ w) × Contains ends (v, k)
  pub only : (link : ℕ × ℕ) → Contains ends link → (link.0 < n) × weighs link.0 link.1
  pub sorted : AreByWeight ends

-- the ends of the links from a start
abbrev pub ends_of : List (List (ℕ × ℕ)) → ℕ → List (ℕ × ℕ)
ends_of ends u = slice_index_or ends u []

-- the same from each of the first starts
pub record AreEndsTo (i : ℕ) (weighs : ℕ → ℕ → ℕ → Type 0) (n : ℕ) (least : ℕ) (ends : List (List (ℕ × ℕ))) : Type 0 where
  pub long : length ends ≡ i
  pub rows : (u : ℕ) → u < i → AreEnds (weighs u) n least (ends_of ends u)

-- and from all starts
abbrev pub AreAllEnds : (ℕ → ℕ → ℕ → Type 0) → ℕ → ℕ → List (List (ℕ × ℕ)) → Type 0
AreAllEnds weighs n least ends = AreEndsTo n weighs n least ends
