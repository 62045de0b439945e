-- A list, 64 items at a time.
use Rattle.std.proofs.Common.{◌≡◌, ◌≤◌, ◌+◌, ◌-◌, ℕ, List, length, take, drop, length-drop, sym, subst, ◌∙◌, arith}
use Rattle.std.specs.Prelude.{min}
use Rattle.std.specs.List.{All}
use Rattle.std.proofs.lemmas.List.{get_or-drop, get_or-take, get_or_default, length-take-le}
use Rattle.tcc_lanes.specs.private.Tiles.{IsTile}

pub tile_of : (xs : List ℕ) (from end last : ℕ) → end ≡ min (length xs) last → from ≤ end → IsTile xs from last (take (end - from) (drop from xs))
tile_of xs from end last least order = record {
  long = omega (arith, long, least);
  each = λ i inside. get_or-take (end - from) (drop from xs) i 0 (omega (arith, long, inside)) ∙ get_or-drop from xs i 0;
}
  where
    long : length (take (end - from) (drop from xs)) ≡ end - from
    long = length-take-le (end - from) (drop from xs) (omega (arith, length-drop from xs, least))

pub all_in_tile : (P : ℕ → Type 0) (xs : List ℕ) (from last : ℕ) (tile : List ℕ) → IsTile xs from last tile → All P xs → All P tile
all_in_tile P xs from last tile tiled all i d inside =
    subst P (sym (get_or_default tile i d 0 inside ∙ tiled.each i inside)) (all (from + i) 0 (omega (arith, inside, tiled.long)))
