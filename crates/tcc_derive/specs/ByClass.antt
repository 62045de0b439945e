-- The links other than session links from one transaction that cost at most the limit: some classes of one cost by rows of
-- marks, and the others one by one. No answer depends on which of them have a row.
use Rattle.std.specs.Prelude.{ℕ, ◌<◌, ◌≤◌, ◌≡◌, ◌⊎◌, ◌↔◌, true, List, length, All, Contains, Some}
use Rattle.std.specs.List.{AllPairs}
use Rattle.tcc_bits.specs.Bits.{is_marked, words_for}
use Rattle.tcc_derive.specs.Prices.{Tables, IsLater, cost_at}
use Rattle.tcc_derive.specs.declared.by_class.Class.{Class}
use Rattle.tcc_derive.specs.declared.by_class.ByClass.{ByClass}

-- a link from u to v that is not a session link costs c, which is at most the limit
abbrev pub IsCheap : Tables → ℕ → ℕ → ℕ → Type 0
IsCheap t u v c = (v < length t.prices) × (IsLater t u v → ⊥) × (cost_at t u v ≡ Some c) × (c ≤ t.limit)

-- these have a link to v at cost c
abbrev pub HasLinkAmong : List Class → List (ℕ × ℕ) → ℕ → ℕ → Type 0
HasLinkAmong classes rest v c = Contains rest (v, c) ⊎ ((class : Class) × Contains classes class × (class.cost ≡ c) × (is_marked class.marks v ≡ true))

abbrev pub HasLink : ByClass → ℕ → ℕ → Type 0
HasLink links v c = HasLinkAmong links.classes.items links.rest v c

-- these are all such links from u, in ascending cost if one by one; a row of marks has room for all transactions
pub record IsByClass (t : Tables) (u : ℕ) (links : ByClass) : Type 0 where
  pub each : (v : ℕ) (c : ℕ) → HasLink links v c ↔ IsCheap t u v c
  pub ascending : AllPairs (λ p q. p.1 ≤ q.1) links.rest
  pub wide : All (λ class. length class.marks ≡ words_for (length t.prices)) links.classes.items
  pub within : All (λ p. p.0 < length t.prices) links.rest
