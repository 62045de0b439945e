-- Writers one pair before a reader, and the links that are kept by them.
use Rattle.std.specs.Prelude.{ℕ, ◌<◌, ◌≡◌, ◌≢◌, ◌⊎◌, ◌↔◌, List, length, Contains}
use Rattle.tcc_reads.specs.History.{History, IsBySession, count}
use Rattle.tcc_graph.specs.Relations.{IsCausalPair, IsReadsPair, IsSessionPair}
use Rattle.tcc_graph.specs.Keys.{writers}
use Rattle.tcc_graph.specs.Tables.{row_of}
use Rattle.tcc_clocks.specs.Parents.{HasSourcesAt, parents}
use Rattle.tcc_clocks.specs.Clocks.{AreOwners}

-- the committed transaction b is one of these writers, other than a
abbrev pub IsOther : List ℕ → ℕ → ℕ → Type 0
IsOther writers a b = (0 < b) × (b ≢ a) × Contains writers b

-- b, another writer of x than a, has a causal pair to c
pub record StepsOver (h : History) (c : ℕ) (x : List ℕ) (a : ℕ) (b : ℕ) : Type 0 where
  pub some : 0 < b
  pub writer : Contains (writers h x) b
  pub apart : b ≢ a
  pub pair : IsCausalPair h b c

-- the row now also has the writers that have to be before a as c reads x from it, each itself or by a later one of its
-- session, and no others
pub record KeepsRead (h : History) (c : ℕ) (x : List ℕ) (a : ℕ) (old : List ℕ) (new : List ℕ) : Type 0 where
  pub sound : (b : ℕ) → Contains new b → Contains old b ⊎ StepsOver h c x a b
  pub wider : (b : ℕ) → Contains old b → Contains new b
  pub enough : (b : ℕ) → StepsOver h c x a b → (d : ℕ) × ((b ≡ d) ⊎ IsSessionPair h b d) × Contains new d

-- these are the parents of c
pub record HasParents (h : History) (c : ℕ) (numbers : List ℕ) : Type 0 where
  pub listed : (b : ℕ) → Contains numbers b ↔ Contains (parents h c) b
  pub sources : HasSourcesAt h c

-- the rows of the transactions before n list those right before each
pub record HaveParents (h : History) (n : ℕ) (rows : List (List ℕ)) : Type 0 where
  pub long : length rows ≡ n
  pub each : (c : ℕ) → c < n → HasParents h c (row_of rows c)

-- a transaction whose reads are visited: the sessions of all are known, and these are its parents
pub record IsReader (h : History) (owners : List ℕ) (numbers : List ℕ) (c : ℕ) : Type 0 where
  pub numbered : IsBySession h.entries
  pub owned : AreOwners h owners
  pub below : c < count h
  pub before : HasParents h c numbers

-- Each in the row has a causal pair to a reader of a, and writes the key. Each writer that has such a pair by one of the reads
-- done is in the row, or a later one of its session is.
pub record KeepsSome (h : History) (a : ℕ) (IsDone : ℕ → List ℕ → Type 0) (row : List ℕ) : Type 0 where
  pub sound : (b : ℕ) → Contains row b → (c : ℕ) × (x : List ℕ) × IsReadsPair h a c x × StepsOver h c x a b
  pub enough : (c : ℕ) (x : List ℕ) (b : ℕ) → IsReadsPair h a c x → IsDone c x → StepsOver h c x a b
      → (d : ℕ) × ((b ≡ d) ⊎ IsSessionPair h b d) × Contains row d

-- the links into a that its readers require by all their reads
abbrev pub KeepsInto : History → ℕ → List ℕ → Type 0
KeepsInto h a row = KeepsSome h a (λ c x. Unit {0}) row
