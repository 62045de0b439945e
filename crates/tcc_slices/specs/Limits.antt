-- Where the links of a cycle need more than a snapshot may have.
use Rattle.std.specs.Prelude.{ℕ, ◌≡◌, ◌<◌, ◌⊎◌, List, All, length}
use Rattle.std.specs.List.Sorted.{IsStrictlySortedBy}
use Rattle.std.specs.Ordering.{nat_cmp}
use Rattle.tcc_txn.specs.declared.limits.TheConstants.{MAX_SESSIONS, MAX_TRANSACTIONS}
use Rattle.tcc_reads.specs.History.{History, owner}
use Rattle.tcc_graph.specs.declared.link.Link.{Link}
use Rattle.tcc_slices.specs.Needs.{IsMet}

-- more than so many numbers are so: an ascending list of them
abbrev pub AreMoreThan : ℕ → (ℕ → Type 0) → Type 0
AreMoreThan most P = (ns : List ℕ) × (most < length ns) × IsStrictlySortedBy nat_cmp ns × All P ns

-- the links need more transactions, or those of more sessions, than a snapshot may have
abbrev pub NeedTooMuch : History → List Link → Type 0
NeedTooMuch h links =
    AreMoreThan MAX_TRANSACTIONS (λ n. (0 < n) × IsMet links n)
    ⊎ AreMoreThan MAX_SESSIONS (λ i. (n : ℕ) × (0 < n) × IsMet links n × (owner h n ≡ i))
