-- Tables of numbers, and positions in them.
use Rattle.std.specs.Prelude.{ℕ, ◌<◌, ◌≤◌, ◌≡◌, ◌-◌, ◌⊎◌, List, length, All, slice_index}
use Rattle.tcc_cert.specs.declared.version.Version.{Version}
use Rattle.tcc_cert.specs.declared.version.Version.TheVariants.{One, Two}
pub use Rattle.tcc_graph.specs.Tables.{row_of}

-- the number in a row and a column
abbrev pub entry : List (List ℕ) → ℕ → ℕ → ℕ
entry table a b = slice_index (row_of table a) b

-- this many rows, each with this many numbers
pub record HasSize (rows : ℕ) (columns : ℕ) (table : List (List ℕ)) : Type 0 where
  pub long : length table ≡ rows
  pub wide : All (λ row. length row ≡ columns) table

-- this many rows, row s with as many numbers as its index says
pub record HasRows (rows : ℕ) (columns : ℕ → ℕ) (table : List (List ℕ)) : Type 0 where
  pub long : length table ≡ rows
  pub wide : (s : ℕ) → s < rows → length (row_of table s) ≡ columns s

-- the first transaction that row s of `far` has a number for
abbrev pub lowest : Version → ℕ → ℕ
lowest One s = 0
lowest Two s = s

-- what `far` has for the routes from s to v
abbrev pub far_entry : Version → List (List ℕ) → ℕ → ℕ → ℕ
far_entry version far s v = slice_index (row_of far s) (v - lowest version s)

-- row s of `far` has a number for each transaction from the lowest on, where there are this many
abbrev pub HasFarSize : Version → ℕ → List (List ℕ) → Type 0
HasFarSize version count far = HasRows count (λ s. count - lowest version s) far

-- no number is above the limit
abbrev pub IsCapped : ℕ → List (List ℕ) → Type 0
IsCapped most table = All (λ row. All (λ number. number ≤ most) row) table

-- by the first number, then by the second
abbrev pub IsEarlier : ℕ × ℕ → ℕ × ℕ → Type 0
IsEarlier p q = (p.0 < q.0) ⊎ ((p.0 ≡ q.0) × (p.1 < q.1))

-- where something is broken first
pub record IsFirstAt (broken : ℕ × ℕ → Type 0) (at : ℕ × ℕ) : Type 0 where
  pub here : broken at
  pub first : (earlier : ℕ × ℕ) → IsEarlier earlier at → broken earlier → ⊥
