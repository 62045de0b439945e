-- The transactions right before each one: in its session, and those that it reads from.
use Rattle.std.specs.Prelude.{ℕ, ◌<◌, ◌≤◌, ◌-◌, ◌≡◌, ◌==◌, if◌then◌else◌, List, [], ◌∷◌, ◌++◌, length, map, All, take, drop, slice_index, slice_index_or}
use Rattle.tcc_reads.specs.History.{History, count, entry_at}
pub use Rattle.tcc_graph.specs.Relations.{previous}

-- the list has the transaction before each one, 0 for `init`
pub record ArePrevious (h : History) (parents : List ℕ) : Type 0 where
  pub long : length parents ≡ count h
  pub init : slice_index parents 0 ≡ 0
  pub each : (c : ℕ) → 0 < c → c < count h → slice_index parents c ≡ previous h c

-- the transaction before c, none for `init`
abbrev pub previous_one : History → ℕ → List ℕ
previous_one h c = if c == 0 then [] else previous h c ∷ []

-- the transactions that c reads from
abbrev pub sources : History → ℕ → List ℕ
sources h c = map (λ read. read.1) (entry_at h c).reads

-- what c reads from are transactions of the history
abbrev pub HasSourcesAt : History → ℕ → Type 0
HasSourcesAt h c = All (λ read. read.1 < count h) (entry_at h c).reads

-- transactions with a causal pair into c; each other transaction with one reaches one of these
abbrev pub parents : History → ℕ → List ℕ
parents h c = previous_one h c ++ sources h c

-- the transactions right before c are these numbers from the one index to before the other
pub record AreParentsAt (h : History) (c : ℕ) (numbers : List ℕ) (start : ℕ) (end : ℕ) : Type 0 where
  pub order : start ≤ end
  pub within : end ≤ length numbers
  pub is : take (end - start) (drop start numbers) ≡ parents h c
  pub sources : HasSourcesAt h c

-- each position of an order before `n` has the step of its transaction
pub record AreSteps (h : History) (order : List ℕ) (spans : List (ℕ × ℕ)) (numbers : List ℕ) (n : ℕ) : Type 0 where
  pub long : length spans ≡ n
  pub each : (k : ℕ) → k < n → AreParentsAt h (slice_index order k) numbers (slice_index_or spans k (0, 0)).0 (slice_index_or spans k (0, 0)).1
