-- What tables say of cycles that a walk makes, or a walk and one derived link back.
use Rattle.std.specs.Prelude.{ℕ, ◌≤◌, ◌≡◌, ◌≢◌, ◌+◌, ◌==◌, if◌then◌else◌, slice_index}
use Rattle.tcc_graph.specs.Tables.{row_of}
use Rattle.tcc_near.specs.WalkLengths.{NearTable}
use Rattle.tcc_derive.specs.Prices.{Tables}
use Rattle.tcc_near.specs.declared.walk_lengths.TheConstants.{NONE}
use Rattle.tcc_core.specs.declared.queue.TheConstants.{NO_WAY}

-- this many steps from a to b, and the price back; only the steps where b is a
abbrev pub closing : ℕ → ℕ → ℕ → ℕ → ℕ
closing steps price a b =
    if steps == NONE then NO_WAY else (if a == b then steps else (if price == NONE then NO_WAY else (steps + price)))

abbrev pub closing_at : NearTable → Tables → ℕ → ℕ → ℕ
closing_at near t a b = closing (slice_index (row_of near.rows a) b) (slice_index (row_of t.prices b) a) a b

-- no pair of these has less, and it is the value of one of them, or no way
pub record IsLeastOf (In : ℕ → ℕ → Type 0) (at : ℕ → ℕ → ℕ) (found : ℕ) : Type 0 where
  pub attained : found ≢ NO_WAY → (a : ℕ) × (b : ℕ) × In a b × (at a b ≡ found)
  pub least : (a : ℕ) (b : ℕ) → In a b → found ≤ at a b
