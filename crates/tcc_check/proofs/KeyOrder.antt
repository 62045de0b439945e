-- Each key of a history has one index.
use Rattle.std.proofs.Common.{ℕ, ◌<◌, ◌≡◌, ◌⊎◌, inl, inr, length}
use Rattle.std.proofs.lemmas.Bool.{cases_eq}
use Rattle.tcc_reads.specs.History.{History}
use Rattle.tcc_graph.specs.Keys.{key_at, keys}
use Rattle.tcc_graph.proofs.NameLemmas.{indices_differ}
use Rattle.tcc_graph.proofs.SortedKeys.{keys_sorted}

-- one key has one index
pub one_index : (h : History) (i j : ℕ) → i < length (keys h) → j < length (keys h) → key_at h i ≡ key_at h j → i ≡ j
one_index h i j inside there same = go (cases_eq i j)
  where
    go : (i ≡ j) ⊎ (i ≡ j → ⊥) → i ≡ j
    go (inl e) = e
    go (inr other) = absurd (indices_differ (keys h) i j (keys_sorted h) inside there other same)
