-- The derived links that lead back, as they are found: for each transaction the least price of one that begins there, and the last position
-- from which one leads to it.
use Rattle.std.specs.Prelude.{ℕ, ◌<◌, ◌≤◌, ◌≡◌, ◌+◌, ◌⊎◌, List, Contains, length, slice_index}
use Rattle.tcc_graph.specs.Levels.{Judged}
use Rattle.tcc_lanes.specs.Nearness.{IsClosing}
use Rattle.tcc_lanes.specs.private.Pricing.{cell}

-- the links that are meant were taken in: no price rises and no last position falls, each new one belongs to one of these links, and none
-- of them is missing
pub record AreOffered (Is : ℕ → ℕ → ℕ → Type 0) (rank : ℕ → ℕ) (prices : List ℕ) (lasts : List ℕ) (new_prices : List ℕ) (new_lasts : List ℕ) : Type 0 where
  pub prices_same : length new_prices ≡ length prices
  pub lasts_same : length new_lasts ≡ length lasts
  pub prices_kept : (b : ℕ) → slice_index new_prices b ≤ slice_index prices b
  pub priced : (b : ℕ) → (slice_index new_prices b ≡ slice_index prices b) ⊎ ((a : ℕ) × Is b a (slice_index new_prices b))
  pub cheapest : (b a price : ℕ) → Is b a price → slice_index new_prices b ≤ price
  pub lasts_kept : (a : ℕ) → slice_index lasts a ≤ slice_index new_lasts a
  pub led : (a : ℕ) → (slice_index new_lasts a ≡ slice_index lasts a) ⊎ ((b : ℕ) × (price : ℕ) × Is b a price × (rank b ≡ slice_index new_lasts a))
  pub last : (b a price : ℕ) → Is b a price → rank b ≤ slice_index new_lasts a

-- a link of this price from here to there
abbrev pub IsThis : ℕ → ℕ → ℕ → ℕ → ℕ → ℕ → Type 0
IsThis from to this b a price = (b ≡ from) × (a ≡ to) × (price ≡ this)

-- a cell of a table of prices is that of a link that leads back and is cheap enough
pub record IsCellOf (positions : List ℕ) (most : ℕ) (starts : List ℕ) (members : List ℕ) (table : List ℕ) (v : ℕ) (i : ℕ) (b : ℕ) (a : ℕ) (price : ℕ) : Type 0 where
  pub from : slice_index starts i ≡ b
  pub to : slice_index members v ≡ a
  pub is : slice_index table (cell v i) ≡ price
  pub short : price + 1 < most
  pub back : slice_index positions a ≤ slice_index positions b

-- one of the first cells of a column
abbrev pub IsInColumn : List ℕ → ℕ → List ℕ → List ℕ → List ℕ → ℕ → ℕ → ℕ → ℕ → ℕ → Type 0
IsInColumn positions most starts members table v end b a price = (i : ℕ) × (i < end) × IsCellOf positions most starts members table v i b a price

-- one of the first columns
abbrev pub IsInColumns : List ℕ → ℕ → List ℕ → List ℕ → List ℕ → ℕ → ℕ → ℕ → ℕ → Type 0
IsInColumns positions most starts members table end b a price =
    (v : ℕ) × (v < end) × IsInColumn positions most starts members table v (length starts) b a price

-- one from one of the first of these sources to one of these targets
abbrev pub IsFromFirst : Judged → List ℕ → ℕ → List ℕ → List ℕ → ℕ → ℕ → ℕ → ℕ → Type 0
IsFromFirst j positions most sources targets end b a price =
    ((k : ℕ) × (k < end) × (k < length sources) × (slice_index sources k ≡ b)) × Contains targets a
    × IsClosing j (λ v. slice_index positions v) most b a price
