-- Which blocks of sessions have a writer of a key that is read from another transaction.
use Rattle.std.specs.Prelude.{ℕ, ◌<◌, ◌≡◌, ◌≢◌, ◌/◌, Bool, true, false, List, length, slice_index, slice_index_or, Contains}
use Rattle.tcc_reads.specs.History.{History, owner}
use Rattle.tcc_graph.specs.Keys.{keys, key_at, writers}
use Rattle.tcc_graph.specs.Relations.{IsReadsPair}
use Rattle.tcc_clocks.specs.declared.latest.TheConstants.{WIDE}
use Rattle.tcc_clocks.specs.declared.needed.KeySources.{KeySources}
use Rattle.tcc_clocks.specs.declared.needed.KeySources.TheVariants as sources

-- a is one of these sources
abbrev pub IsSourceOf : KeySources → ℕ → Type 0
IsSourceOf sources.Nobody a = ⊥
IsSourceOf (sources.One source) a = source ≡ a
IsSourceOf sources.Several a = Unit {0}

abbrev pub sources_at : List KeySources → ℕ → KeySources
sources_at all k = slice_index_or all k sources.Nobody

-- the block of a session is marked
abbrev pub IsMarked : List Bool → ℕ → Type 0
IsMarked needed session = slice_index_or needed (session / WIDE) false ≡ true

-- for the first n keys the block of each writer is marked if the key has another source
abbrev pub AreMarked : History → List ℕ → List KeySources → ℕ → List Bool → Type 0
AreMarked h owners all n needed =
    (k : ℕ) → k < n → (a b : ℕ) → IsSourceOf (sources_at all k) a → Contains (writers h (key_at h k)) b → b ≢ a
    → IsMarked needed (slice_index owners b)

-- each source of a key is still one
abbrev pub HaveGrown : List KeySources → List KeySources → Type 0
HaveGrown old new = (k a : ℕ) → IsSourceOf (sources_at old k) a → IsSourceOf (sources_at new k) a

-- what c reads from is among the sources of the key
abbrev pub HasSourcesRead : History → ℕ → List KeySources → Type 0
HasSourcesRead h c all =
    (a : ℕ) (x : List ℕ) → IsReadsPair h a c x → (k : ℕ) × (k < length (keys h)) × (key_at h k ≡ x) × IsSourceOf (sources_at all k) a

-- the same for each transaction before n
abbrev pub AreSourcesRead : History → ℕ → List KeySources → Type 0
AreSourcesRead h n all = (c : ℕ) → c < n → HasSourcesRead h c all

-- marked is the block of each committed transaction that writes a key which is read from another transaction
abbrev pub AreNeeded : History → List Bool → Type 0
AreNeeded h needed =
    (a b c : ℕ) (x : List ℕ) → IsReadsPair h a c x → Contains (writers h x) b → 0 < b → b ≢ a → IsMarked needed (owner h b)
