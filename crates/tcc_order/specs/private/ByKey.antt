-- Readings, each a reader and the index of a key: what the clocks of the readers of one key hold.
use Rattle.std.specs.Prelude.{ℕ, ◌<◌, ◌≤◌, ◌-◌, ◌≡◌, ◌⊎◌, if◌then◌else◌, nat_le, max, List, length, slice_index, slice_index_or}
use Rattle.tcc_graph.specs.Tables.{row_of}

-- the reader at an index, and the index of the key that it reads
abbrev pub reader_in : List (ℕ × ℕ) → ℕ → ℕ
reader_in readings k = (slice_index_or readings k (0, 0)).0

abbrev pub key_index_in : List (ℕ × ℕ) → ℕ → ℕ
key_index_in readings k = (slice_index_or readings k (0, 0)).1

-- the greatest number that a clock of the readers from `start` to below `end` holds of session k, past what is known
pub record IsTop (table : List (List ℕ)) (readings : List (ℕ × ℕ)) (start : ℕ) (end : ℕ) (known : List ℕ) (k : ℕ) (top : ℕ) : Type 0 where
  pub attained : (top ≡ 0) ⊎ ((j : ℕ) × (start ≤ j) × (j < end) × (top ≡ slice_index (row_of table (reader_in readings j)) k))
  pub greatest : (j : ℕ) → start ≤ j → j < end → slice_index (row_of table (reader_in readings j)) k ≤ max top (slice_index known k)

-- the number if it is past what is known, or else 0
abbrev pub past_of : ℕ → ℕ → ℕ
past_of known n = if nat_le n known then 0 else n

-- at index k both have the same key, and readers with equal rows
abbrev pub AreAlikeAt : List (List ℕ) → List (ℕ × ℕ) → List (ℕ × ℕ) → ℕ → Type 0
AreAlikeAt table readings others k =
    (k < length others) × (key_index_in readings k ≡ key_index_in others k)
    × (row_of table (reader_in readings k) ≡ row_of table (reader_in others k))

-- so it is at each index of the first
abbrev pub AreAlike : List (List ℕ) → List (ℕ × ℕ) → List (ℕ × ℕ) → Type 0
AreAlike table readings others = (k : ℕ) → k < length readings → AreAlikeAt table readings others k

-- a and the transaction before it in its session are read by readers with equal rows, key by key
pub record IsLikeBefore (owners : List ℕ) (table : List (List ℕ)) (rows : List (List (ℕ × ℕ))) (a : ℕ) : Type 0 where
  pub more : 1 < a
  pub same : slice_index owners (a - 1) ≡ slice_index owners a
  pub alike : AreAlike table (row_of rows a) (row_of rows (a - 1))
