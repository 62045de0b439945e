-- Rows that are written capped, one after the other.
use Rattle.std.proofs.Common.{◌≡◌, ◌<◌, ◌+◌, ◌++◌, ℕ, List, [], ◌∷◌, Option, length, map, take, get_or, sym, ap, ◌∙◌, arith}
use Rattle.std.proofs.lemmas.List.{get_or-map, length-map}
use Rattle.tcc_bits.specs.Packed.{at_most}
use Rattle.tcc_cert.proofs.GivenTexts.{rows_more}

-- the rows up to the next one
pub capped_next : (cap : ℕ) (rows : List (List (Option ℕ))) (i : ℕ) (row : List (Option ℕ)) → i < length rows → row ≡ get_or rows i row
    → take i (map (map (at_most cap)) rows) ++ map (at_most cap) row ∷ [] ≡ take (i + 1) (map (map (at_most cap)) rows)
capped_next cap rows i row low is =
    rows_more (map (map (at_most cap)) rows) i (map (at_most cap) row) (omega (arith, low, length-map rows (map (at_most cap))))
    (ap (map (at_most cap)) is ∙ sym (get_or-map (map (at_most cap)) rows i row (map (at_most cap) row) low))
