-- Each cost is that of a link from the start, or of a way over a member that costs less.
use Rattle.std.proofs.Common.{◌≡◌, ◌<◌, ◌+◌, ◌⊎◌, inl, inr, ℕ, List, [], length, get_or, refl, ◌∙◌, arith}
use Rattle.tcc_lanes.specs.private.Pricing.{IsAttained, IsSettled, IsSettledFrom, IsTable, price_of}

-- at the first level all costs are those of links from the start
pub attained_first : (rows : List (List ℕ)) (s v : ℕ) → IsSettledFrom rows s 1 (get_or rows s []) v
attained_first rows s v = inl refl

module _ (rows : List (List ℕ)) (table : IsTable rows) (s level : ℕ) (Is : ℕ → Type 0) (old new : List ℕ) (same : length rows ≡ length old)
    (settled : IsSettled rows level Is old new) where
  -- a cost up to this level stays
  kept : (u : ℕ) → u < length rows → get_or old u 0 < level + 1 → get_or new u 0 ≡ get_or old u 0
  kept u l low = go (settled.either u (omega (arith, l, same)))
    where
      go : (get_or new u 0 ≡ get_or old u 0) ⊎ ((t : ℕ) × (t < length old) × (get_or old t 0 ≡ level) × (get_or new u 0 ≡ level + price_of rows t u))
          → get_or new u 0 ≡ get_or old u 0
      go (inl stays) = stays
      go (inr (t, inside, at, over)) =
          absurd (omega (arith, over, low, settled.kept u (omega (arith, l, same)), table.some t u (omega (arith, inside, same)) l))

  pub attained_more : (v : ℕ) → v < length rows → IsSettledFrom rows s level old v → IsSettledFrom rows s (level + 1) new v
  attained_more v l before = go (settled.either v (omega (arith, l, same))) before
    where
      go : (get_or new v 0 ≡ get_or old v 0) ⊎ ((t : ℕ) × (t < length old) × (get_or old t 0 ≡ level) × (get_or new v 0 ≡ level + price_of rows t v))
          → IsSettledFrom rows s level old v → IsSettledFrom rows s (level + 1) new v
      go (inl stays) (inl start) = inl (stays ∙ start)
      go (inl stays) (inr (u, inside, low, over)) =
          let still : get_or new u 0 ≡ get_or old u 0 = kept u inside (omega (arith, low)) in
          inr (u, inside, omega (arith, still, low), omega (arith, still, stays, over))
      go (inr (t, inside, at, over)) q =
          let still : get_or new t 0 ≡ get_or old t 0 = kept t (omega (arith, inside, same)) (omega (arith, at)) in
          inr (t, omega (arith, inside, same), omega (arith, still, at), omega (arith, still, at, over))

pub attained : (rows : List (List ℕ)) (s level : ℕ) (costs : List ℕ) (v : ℕ) → IsSettledFrom rows s level costs v → IsAttained rows s costs v
attained rows s level costs v (inl start) = inl start
attained rows s level costs v (inr (u, inside, low, over)) = inr (u, inside, over)
