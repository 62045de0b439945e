-- Tables of answers, row by row.
use Rattle.std.proofs.Common.{ℕ, ◌≡◌, ◌<◌, ◌≤◌, ◌-◌, ◌==◌, Bool, true, false, cond, ◌⊎◌, inl, inr}
use Rattle.std.proofs.Common.{List, [], length, map, get_or, All, Option, None, Some, sym, ◌∙◌, ap}
use Rattle.std.proofs.Common.{subst, arith}
use Rattle.std.specs.Prelude.{min, slice_index}
use Rattle.std.proofs.lemmas.Bool.{cases_lt}
use Rattle.std.proofs.lemmas.List.{get_or-map, length-map, get_or_default}
use Rattle.tcc_txn.specs.declared.limits.TheConstants.{MAX_COUNT}
use Rattle.tcc_reads.specs.History.{History, count}
use Rattle.tcc_graph.specs.Levels.{Judged, judged}
use Rattle.tcc_graph.specs.declared.level.Level.{Level}
use Rattle.tcc_near.specs.WalkLengths.{IsNearOf, NearTable, IsWalkLength, IsShortest}
use Rattle.tcc_core.specs.Shares.{IsCappedDistance}
use Rattle.tcc_bits.specs.Packed.{value_in, at_most}
use Rattle.tcc_bits.specs.declared.packed.TheConstants.{NO_VALUE}
use Rattle.tcc_cert.specs.Tables.{row_of, entry, far_entry}
use Rattle.tcc_cert.specs.declared.version.Version.TheVariants.{Two}
use Rattle.tcc_explain.specs.Certificates.{IsCappedShortest, IsNearTable, IsFarTable}
use Rattle.tcc_explain.specs.private.Capping.{AreFarRows}

-- ---- routes

pub far_few : (j : Judged) (cap : ℕ) (costs : List (List (Option ℕ))) → AreFarRows j cap costs → count j.history ≤ MAX_COUNT
    → All (λ row. length row ≤ MAX_COUNT) costs
far_few j cap costs are few = λ i d low.
    let from : i < count j.history = omega (arith, low, are.long) in
    omega (arith, ap length (get_or_default costs i d [] low), are.wide i from, few)

-- the table of these rows, which are capped already
pub far_table : (j : Judged) (cap : ℕ) (costs : List (List (Option ℕ))) → AreFarRows j cap costs → IsFarTable j cap (map (map (at_most cap)) costs)
far_table j cap costs are = record {
  size = record {
    long = length-map costs (map (at_most cap)) ∙ are.long;
    wide = λ s low. ap length (row s low) ∙ (length-map (row_of costs s) (at_most cap) ∙ are.wide s low);
  };
  exact = λ s v up to.
      let from : s < count j.history = omega arith in
      let within : v - s < length (row_of costs s) = omega (arith, are.wide s from) in
      let at : far_entry Two table s v ≡ at_most cap (get_or (row_of costs s) (v - s) None) =
      ap (λ (r : List ℕ). get_or r (v - s) 0) (row s from) ∙ get_or-map (at_most cap) (row_of costs s) (v - s) None 0 within in
      subst (λ (z : ℕ). IsCappedDistance j s v (Some cap) (Some z)) (sym at) (some_distance s v (get_or (row_of costs s) (v - s) None) (are.exact s v up to));
}
  where
    table : List (List ℕ)
    table = map (map (at_most cap)) costs

    row : (s : ℕ) → s < count j.history → row_of table s ≡ map (at_most cap) (row_of costs s)
    row s low = get_or-map (map (at_most cap)) costs s [] [] (omega (arith, are.long))

    some_distance : (s v : ℕ) (d : Option ℕ) → IsCappedDistance j s v (Some cap) d → IsCappedDistance j s v (Some cap) (Some (at_most cap d))
    some_distance s v None none = absurd none
    some_distance s v (Some c) (inl less) =
        let same : min cap c ≡ c = omega (arith, less.0) in
        subst (λ (z : ℕ). IsCappedDistance j s v (Some cap) (Some z)) (sym same) (inl less)
    some_distance s v (Some c) (inr more) =
        let same : min cap c ≡ c = omega (arith, more.0) in
        subst (λ (z : ℕ). IsCappedDistance j s v (Some cap) (Some z)) (sym same) (inr more)

-- ---- distances

-- distances at the level that they name
pub own_level : (h : History) (level : Level) (near : NearTable) → IsNearOf (judged h level) near
    → IsNearOf (judged h near.level) near
own_level h level near is = subst (λ (l : Level). IsNearOf (judged h l) near) (sym is.level) is

near_entry : (j : Judged) (a c cap steps : ℕ) (none : Bool) → IsWalkLength j a c (cond none None (Some steps))
    → IsCappedShortest j cap a c (at_most cap (cond none None (Some steps)))
near_entry j a c cap steps true none = let same : min cap cap ≡ cap = omega arith in inr (same, λ walk is. absurd (none walk is))
near_entry j a c cap steps false shortest = go (cases_lt steps cap)
  where
    go : (steps < cap) ⊎ (cap ≤ steps) → IsCappedShortest j cap a c (min cap steps)
    go (inl less) =
        let same : min cap steps ≡ steps = omega arith in
        inl (omega arith, subst (λ (z : ℕ). IsShortest j a c z) (sym same) shortest)
    go (inr more) =
        let same : min cap steps ≡ cap = omega arith in
        inr (same, λ walk is. omega (arith, shortest.least walk is))

module _ (j : Judged) (near : NearTable) (is : IsNearOf j near) where
  abbrev numbers : List (List (Option ℕ))
  numbers = map (map value_in) near.rows

  as_many : length numbers ≡ count j.history
  as_many = length-map near.rows (map value_in) ∙ is.square.long

  numbers_at : (a : ℕ) → a < count j.history → row_of numbers a ≡ map value_in (row_of near.rows a)
  numbers_at a low = get_or-map (map value_in) near.rows a [] [] (omega (arith, low, is.square.long))

  wide : (a : ℕ) → a < count j.history → length (row_of near.rows a) ≡ count j.history
  wide a low = is.square.wide a [] (omega (arith, is.square.long))

  as_wide : (a : ℕ) → a < count j.history → length (row_of numbers a) ≡ count j.history
  as_wide a low = ap length (numbers_at a low) ∙ (length-map (row_of near.rows a) value_in ∙ wide a low)

  pub near_few : count j.history ≤ MAX_COUNT → All (λ row. length row ≤ MAX_COUNT) (map (map value_in) near.rows)
  near_few few = λ i d low.
      let from : i < count j.history = omega (arith, low, as_many) in
      omega (arith, ap length (get_or_default numbers i d [] low), as_wide i from, few)

  pub near_table : (cap : ℕ) → IsNearTable j cap (map (map (at_most cap)) (map (map value_in) near.rows))
  near_table cap = record {
    size = record {
      long = length-map numbers (map (at_most cap)) ∙ as_many;
      wide = λ i d low.
          let from : i < count j.history = omega (arith, low, length-map numbers (map (at_most cap)), as_many) in
          ap length (get_or_default table i d [] low) ∙ (ap length (row i from) ∙ (length-map (row_of numbers i) (at_most cap) ∙ as_wide i from));
    };
    exact = λ a c from to.
        let steps : ℕ = slice_index (row_of near.rows a) c in
        let inside : c < length (row_of numbers a) = omega (arith, to, as_wide a from) in
        let at : entry table a c ≡ at_most cap (value_in steps) =
        ap (λ (r : List ℕ). get_or r c 0) (row a from) ∙ (get_or-map (at_most cap) (row_of numbers a) c None 0 inside
        ∙ ap (at_most cap) (number a c from to)) in
        subst (λ (z : ℕ). IsCappedShortest j cap a c z) (sym at) (near_entry j a c cap steps (steps == NO_VALUE) (is.exact a c from to));
  }
    where
      table : List (List ℕ)
      table = map (map (at_most cap)) numbers

      row : (a : ℕ) → a < count j.history → row_of table a ≡ map (at_most cap) (row_of numbers a)
      row a low = get_or-map (map (at_most cap)) numbers a [] [] (omega (arith, low, as_many))

      number : (a c : ℕ) → a < count j.history → c < count j.history
          → get_or (row_of numbers a) c None ≡ value_in (slice_index (row_of near.rows a) c)
      number a c from to =
          ap (λ (r : List (Option ℕ)). get_or r c None) (numbers_at a from)
          ∙ get_or-map value_in (row_of near.rows a) c 0 None (omega (arith, to, wide a from))
