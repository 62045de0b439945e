-- A search that begins with the cost of a least cycle finds no less, so its rows are capped there.
use Rattle.std.proofs.Common.{ℕ, ◌≡◌, ◌<◌, ◌≤◌, ◌⊎◌, inl, inr, ◌-◌, List, Option, None, Some, refl, sym, ap, subst, arith}
use Rattle.std.specs.Prelude.{slice_index_or}
use Rattle.tcc_reads.specs.History.{History}
use Rattle.tcc_graph.specs.Levels.{Judged, judged}
use Rattle.tcc_graph.specs.Links.{cost}
use Rattle.tcc_graph.specs.Routes.{IsLeastCycle}
use Rattle.tcc_graph.specs.Tables.{row_of}
use Rattle.tcc_graph.specs.Ties.{IsFirstCycle}
use Rattle.tcc_graph.specs.declared.level.Level.{Level}
use Rattle.tcc_graph.specs.declared.link.Link.{Link}
use Rattle.tcc_derive.specs.Prices.{Tables, IsPricesOf}
use Rattle.tcc_core.specs.Shares.{SettleAt, IsCappedDistance, IsCycleCost}
use Rattle.tcc_core.proofs.Settlement.{word_or_cycle, least_cycle}
use Rattle.tcc_steal.specs.Findings.{IsFound}
use Rattle.tcc_steal.specs.declared.found.Found.{Found}
use Rattle.tcc_steal.specs.private.Floors.{least_cost}
use Rattle.tcc_steal.proofs.Floor.{floor_attained, floor_below}
use Rattle.tcc_explain.specs.KnownCost.{AreDistances, IsLeastCost}
use Rattle.tcc_explain.specs.declared.distances.Distances.{Distances}
use Rattle.tcc_explain.specs.private.Capping.{AreFarRows}

-- ---- the prices determine the cost of a least cycle

-- a cost of cycles below which there is none is the least one
is_least : (j : Judged) (c d : ℕ) → IsLeastCost j c → IsCycleCost j d → d ≤ c → d ≡ c
is_least j c d (s, links, least, costs) (t, others, cycle, other_costs) low = omega (arith, least.least t others cycle, costs, other_costs, low)

module _ (t : Tables) (c : ℕ) (few : c < 18446744073709551615) where
  is_floor : (j : Judged) → IsPricesOf j t → IsLeastCost j c → least_cost t ≡ c
  is_floor j prices is = go (floor_attained j t prices)
    where
      low : least_cost t ≤ c
      low = floor_below j t prices c (is.0, is.1, is.2.cycle, is.3)

      go : (least_cost t ≡ 18446744073709551615) ⊎ IsCycleCost j (least_cost t) → least_cost t ≡ c
      go (inl none) = absurd (omega (arith, none, low, few))
      go (inr found) = is_least j c (least_cost t) is found low

  -- of each history with these prices some cycle costs as much
  pub cost_of_each : (j k : Judged) → IsPricesOf j t → IsLeastCost j c → IsPricesOf k t → IsCycleCost k c
  cost_of_each j k prices is others = go (floor_attained k t others)
    where
      floor : least_cost t ≡ c
      floor = is_floor j prices is

      go : (least_cost t ≡ 18446744073709551615) ⊎ IsCycleCost k (least_cost t) → IsCycleCost k c
      go (inl none) = absurd (omega (arith, none, floor, few))
      go (inr found) = subst (IsCycleCost k) floor found

-- ---- the rows

module _ (j : Judged) (workers : ℕ) (found : Found) (is : IsFound j workers found) (c : ℕ) (known : IsLeastCost j c) where
  -- what is found is this cost
  found_cost : (o : Option ℕ) → SettleAt j is.shares o → o ≡ Some c
  found_cost None settle = absurd ((word_or_cycle j is.shares None settle).0 refl (known.0, known.1, known.2.cycle))
  found_cost (Some b) settle =
      let (s, links, least, costs) = least_cycle j is.shares b settle in
      let same : b ≡ c = omega (arith, least.least known.0 known.1 known.2.cycle, known.2.least s links least.cycle, costs, known.3) in
      ap Some same

  pub far_rows : AreFarRows j c found.rows.items
  far_rows = record {
    long = is.long;
    wide = is.wide;
    exact =
        λ s v up below. subst (λ (o : Option ℕ). IsCappedDistance j s v o (slice_index_or (row_of found.rows.items s) (v - s) None))
        (found_cost found.least is.settle) (is.exact s v up below);
  }

-- ---- the first of the least cycles

module _ (h : History) (level : Level) (s : ℕ) (links : List Link) (first : IsFirstCycle (judged h level) s links) (n : ℕ) (costs : n ≡ cost links)
    (other : Level) (same : other ≡ level) where
  -- it shows what a least cycle costs
  pub first_cost : IsLeastCost (judged h other) n
  first_cost = (s, links, subst (λ (l : Level). IsLeastCycle (judged h l) s links) (sym same) first.least, sym costs)

  -- its tables are those at its level and its cost
  pub first_tables : (d : Distances) → AreDistances (judged h other) n d → AreDistances (judged h level) (cost links) d
  first_tables d are =
      subst (λ (m : ℕ). AreDistances (judged h level) m d) costs (subst (λ (l : Level). AreDistances (judged h l) n d) same are)
