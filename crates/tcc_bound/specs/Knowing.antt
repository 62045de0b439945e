-- What a seat knows, and what the steps on the bound make of it.
use Rattle.std.specs.Prelude.{ℕ, ◌≤◌, ◌++◌, [], ◌∷◌, All, min}
use Rattle.tcc_bound.specs.declared.known.Known.{Known}

-- the word where nothing was offered, and the sight of a seat that saw nothing: `u64::MAX`
abbrev pub no_cost : ℕ
no_cost = 18446744073709551615

-- at most everything that the seat offered or saw
abbrev pub IsAtMostAll : ℕ → Known → Type 0
IsAtMostAll n known = (n ≤ known.sight) × All (λ cost. n ≤ cost) known.offers

-- the first seat of a bound: it saw nothing and offered nothing
abbrev pub newcomer : ℕ → Known
newcomer floor = record { floor = floor; sight = no_cost; offers = [] }

-- the seat, after the word was reported to it
abbrev pub with_sight : Known → ℕ → Known
with_sight known word = record known { sight = word }

-- the seat, after it offered a cost
abbrev pub with_offer : Known → ℕ → Known
with_offer known cost = record known { offers = known.offers ++ cost ∷ [] }

-- a seat that is split off: it has seen as much, and offered nothing
abbrev pub without_offers : Known → Known
without_offers known = record known { offers = [] }

-- one seat of two: the offers of both, and the lower sight
abbrev pub both_of : Known → Known → Known
both_of known other = record known { sight = min known.sight other.sight; offers = known.offers ++ other.offers }
