-- Who reads each key, with whom it is read from.
use Rattle.std.specs.Prelude.{ℕ, ◌<◌, ◌≡◌, ◌≢◌, List, Option, None, IfSome, Contains, length, slice_index, slice_index_or}
use Rattle.tcc_reads.specs.History.{History}
use Rattle.tcc_graph.specs.Keys.{key_at, keys}
use Rattle.tcc_graph.specs.Relations.{IsReadsPair}

-- each reader of a key with its source, and no others
pub record AreReadingsAt (h : History) (key_index : ℕ) (readings : List (ℕ × ℕ)) : Type 0 where
  pub each : (a c : ℕ) → Contains readings (c, a) → IsReadsPair h a c (key_at h key_index)
  pub all : (a c : ℕ) → IsReadsPair h a c (key_at h key_index) → Contains readings (c, a)

-- those of one key, where they are noted
abbrev pub readings_at : List (Option (List (ℕ × ℕ))) → ℕ → Option (List (ℕ × ℕ))
readings_at readings key_index = slice_index_or readings key_index None

-- the same of the first keys
pub record AreReadingsTo (i : ℕ) (h : History) (readings : List (Option (List (ℕ × ℕ)))) : Type 0 where
  pub long : length readings ≡ i
  pub rows : (key_index : ℕ) → key_index < i → IfSome (readings_at readings key_index) (AreReadingsAt h key_index)

-- and for all
abbrev pub AreReadings : History → List (Option (List (ℕ × ℕ))) → Type 0
AreReadings h readings = AreReadingsTo (length (keys h)) h readings

-- one of these readers reads from v, other than u, and the row has w for the reader
abbrev pub ReadingWeighs : List (ℕ × ℕ) → List ℕ → ℕ → ℕ → ℕ → Type 0
ReadingWeighs readings row u v w = (v ≢ u) × (c : ℕ) × Contains readings (c, v) × (w ≡ slice_index row c)

-- v is one of these sources, other than u, and the row has w for the reader beside it
abbrev pub PairWeighs : List ℕ → List ℕ → List ℕ → ℕ → ℕ → ℕ → Type 0
PairWeighs sources readers row u v w =
    (k : ℕ) × (k < length sources) × (slice_index sources k ≡ v) × (v ≢ u) × (w ≡ slice_index row (slice_index readers k))

-- some reader reads the key from v, other than u, and the row has w for the reader
abbrev pub KeyWeighs : History → List ℕ → ℕ → ℕ → ℕ → ℕ → Type 0
KeyWeighs h row u k v w = (c : ℕ) × IsReadsPair h v c (key_at h k) × (v ≢ u) × (w ≡ slice_index row c)

-- the same for one of the keys
abbrev pub KeysWeigh : History → List ℕ → List ℕ → ℕ → ℕ → ℕ → Type 0
KeysWeigh h written row u v w = (k : ℕ) × Contains written k × KeyWeighs h row u k v w
