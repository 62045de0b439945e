-- Positions in tables.
use Rattle.std.proofs.Common.{◌≡◌, ◌<◌, ◌≤◌, ℕ, ◌⊎◌, inl, inr, List, [], length, get_or, arith, refl, ap}
use Rattle.std.specs.Prelude.{All}
use Rattle.std.proofs.lemmas.Bool.{cases_lt}
use Rattle.std.proofs.lemmas.List.{get_or_past, get_or_read}
use Rattle.tcc_cert.specs.Tables.{row_of, entry, HasSize}

-- there is nothing past the last column
pub entry_past : (rows columns : ℕ) (table : List (List ℕ)) (a column : ℕ) → HasSize rows columns table → columns ≤ column → entry table a column ≡ 0
entry_past rows columns table a column size past = go (cases_lt a (length table))
  where
    go : (a < length table) ⊎ (length table ≤ a) → entry table a column ≡ 0
    go (inl below) = get_or_past (row_of table a) column 0 (omega (arith, size.wide a [] below))
    go (inr above) = rw (get_or_past table a [] above) refl

-- the number in a row that was read
pub entry_read : (table : List (List ℕ)) (a b : ℕ) (row : List ℕ) → a < length table → row ≡ get_or table a row → get_or row b 0 ≡ entry table a b
entry_read table a b row inside is = ap (λ r. get_or r b 0) (get_or_read table a row inside is [])

-- no number of a capped row is above the cap, nor is what is read past its end
pub capped_at : (row : List ℕ) (most : ℕ) → All (λ value. value ≤ most) row → (k : ℕ) → get_or row k 0 ≤ most
capped_at row most capped k = go (cases_lt k (length row))
  where
    go : (k < length row) ⊎ (length row ≤ k) → get_or row k 0 ≤ most
    go (inl inside) = capped k 0 inside
    go (inr past) = omega (arith, get_or_past row k 0 past)
