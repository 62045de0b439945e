-- How the numbers of names are stored in memory.
use Rattle.std.specs.Prelude.{ℕ, ◌≡◌, false, List, MatchOption}
use Rattle.std.specs.BTreeMap.{BTreeMap, get}
use Rattle.std.specs.Ordering.{nat_cmp}
use Rattle.std.specs.Cmp.Lexicographic.{slice_cmp}
use Rattle.tcc_txn.specs.Symbols.{IsNumber, is_symbol}

-- the map has the number of each of the names, and of no other
abbrev pub HoldsNumbers : List (List ℕ) → BTreeMap (List ℕ) ℕ → Type 0
HoldsNumbers names numbers =
    (name : List ℕ) → MatchOption (get (slice_cmp nat_cmp) numbers name) (is_symbol name names ≡ false) (IsNumber names name)
