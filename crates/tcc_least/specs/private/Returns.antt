-- The kinds of derived links of two steps with a pair back, by where they are looked for.
use Rattle.std.specs.Prelude.{ℕ, ◌<◌, ◌≤◌, ◌≡◌, ◌↔◌, List, Contains, Option, MatchOption}
use Rattle.tcc_reads.specs.History.{History, count, owner}
use Rattle.tcc_graph.specs.Relations.{IsSessionPair, IsCausalPair}
use Rattle.tcc_graph.specs.Keys.{IsWriter}
use Rattle.tcc_graph.specs.Links.{MayContradict}
use Rattle.tcc_least.specs.Shapes.{IsRead}

-- the first of some numbers from `low` to below `high`
abbrev pub IsFirstWithin : List ℕ → ℕ → ℕ → Option ℕ → Type 0
IsFirstWithin numbers low high found =
    MatchOption found ((n : ℕ) → Contains numbers n → low ≤ n → high ≤ n)
    (λ n. Contains numbers n × (low ≤ n) × (n < high) × ((m : ℕ) → Contains numbers m → low ≤ m → n ≤ m))

-- no session reaches over `end`
abbrev pub IsCut : History → ℕ → Type 0
IsCut h end = (u : ℕ) (v : ℕ) → 0 < u → u < end → end ≤ v → v < count h → owner h u ≡ owner h v → ⊥

-- the numbers from `first` to below `end` are those of one session
pub record IsSession (h : History) (first : ℕ) (end : ℕ) : Type 0 where
  pub some : 0 < first
  pub after : (u : ℕ) (v : ℕ) → first ≤ u → u < end → IsSessionPair h u v ↔ ((u < v) × (v < end))
  pub before : (u : ℕ) (v : ℕ) → 0 < u → first ≤ v → v < end → IsSessionPair h u v ↔ ((first ≤ u) × (u < v))

-- b, another writer of x, is between a and a reader c in session order
abbrev pub IsWriterBetween : History → ℕ → List ℕ → ℕ → ℕ → Type 0
IsWriterBetween h a x c b = (0 < b) × IsWriter h b x × IsSessionPair h a b × IsSessionPair h b c

-- c reads some key from a, and b, another writer of it, is between them in session order
abbrev pub IsBetween : History → ℕ → ℕ → ℕ → Type 0
IsBetween h c b a = (0 < b) × ((x : List ℕ) × MayContradict h b a x c) × IsSessionPair h b c × IsSessionPair h a b

-- c reads some key from a, and reads from b, another writer of it, to which a pair leads from a
abbrev pub IsThrough : History → ℕ → ℕ → ℕ → Type 0
IsThrough h c b a = ((x : List ℕ) × MayContradict h b a x c) × IsRead h b c × IsCausalPair h a b

-- b reads from a, and a later transaction of its session reads from a a key that b writes
abbrev pub IsStale : History → ℕ → ℕ → Type 0
IsStale h b a = ((x : List ℕ) × (c : ℕ) × MayContradict h b a x c × IsSessionPair h b c) × IsRead h a b
