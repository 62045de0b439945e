-- What the axiom asks where a transaction reaches a reader by a single pair.
use Rattle.std.specs.Prelude.{ℕ, ◌<◌, ◌≤◌, ◌≡◌, true, List, Contains, length, slice_index}
use Rattle.tcc_reads.specs.History.{History, entry_at}
use Rattle.tcc_graph.specs.Keys.{has_name, key_at, keys, writers, writes}
use Rattle.tcc_graph.specs.Relations.{IsReadsPair, IsSessionPair}

-- for each key at most the position of the source from which c reads it
abbrev pub AreSourcePositions : History → List ℕ → ℕ → List ℕ → Type 0
AreSourcePositions h positions c sources =
    (k a : ℕ) → k < length (keys h) → IsReadsPair h a c (key_at h k) → slice_index sources k ≤ slice_index positions a

-- b comes after none of these positions of keys that it writes
abbrev pub DoesWriterStand : History → List ℕ → List ℕ → ℕ → Type 0
DoesWriterStand h positions sources b =
    (k : ℕ) → k < length (keys h) → has_name (entry_at h b).writes (key_at h k) ≡ true → slice_index positions b ≤ slice_index sources k

-- no other writer of a key that c reads, from which c reads too, comes after the source
abbrev pub DoSourcesStand : History → List ℕ → ℕ → Type 0
DoSourcesStand h positions c =
    (b : ℕ) (y : List ℕ) (a : ℕ) (x : List ℕ) → IsReadsPair h b c y → IsReadsPair h a c x → 0 < b → writes h b x ≡ true
    → slice_index positions b ≤ slice_index positions a

-- none of these writers that come before c in its session comes after the source
abbrev pub DoesSessionStand : History → List ℕ → List ℕ → ℕ → ℕ → Type 0
DoesSessionStand h positions writers source c =
    (b : ℕ) → Contains writers b → 0 < b → IsSessionPair h b c → slice_index positions b ≤ slice_index positions source

-- the same for each key that c reads
abbrev pub DoSessionsStand : History → List ℕ → ℕ → Type 0
DoSessionsStand h positions c = (x : List ℕ) (a : ℕ) → IsReadsPair h a c x → DoesSessionStand h positions (writers h x) a c
