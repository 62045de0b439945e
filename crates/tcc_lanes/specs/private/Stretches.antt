-- Prices as stretches of columns with the same price.
use Rattle.std.specs.Prelude.{ℕ, List, replicate}
use Rattle.std.specs.List.{flat_map}
use Rattle.tcc_lanes.specs.declared.stretches.Stretch.{Stretch}

-- the price of each column of a stretch
abbrev pub prices_of : Stretch → List ℕ
prices_of s = replicate s.columns s.price

-- the price of each column of these stretches
abbrev pub prices_in : List Stretch → List ℕ
prices_in stretches = flat_map prices_of stretches
