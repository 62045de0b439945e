-- The first hit, session by session.
use Rattle.std.proofs.Common.{◌≡◌, ◌<◌, ◌≤◌, ◌+◌, ◌⊎◌, inl, inr, ℕ, List, length, get_or, slice_index, refl, sym, ◌∙◌, subst, arith}
use Rattle.std.specs.List.{Contains}
use Rattle.std.specs.List.Sorted.{IsNonDecreasing}
use Rattle.std.proofs.lemmas.Bool.{cases_lt, cases_eq}
use Rattle.std.proofs.lemmas.List.{get_or_default}
use Rattle.tcc_reads.specs.History.{IsBySession, count}
use Rattle.tcc_graph.specs.Levels.{Judged}
use Rattle.tcc_clocks.specs.Clocks.{AreOwners}
use Rattle.tcc_clocks.specs.declared.latest.TheConstants.{WIDE}
use Rattle.tcc_survey.specs.private.Settled.{IsLeastOf, IsHit, IsHitIn}

-- none of these before an index, and past it all are too great
pub none_past : (j : Judged) (owners : List ℕ) (session low high : ℕ) (xs : List ℕ) (c : ℕ) → IsNonDecreasing xs → (n : ℕ) → n < length xs
    → ((k : ℕ) → k < n → IsHitIn j owners session low high xs c (slice_index xs k) → ⊥) → high < slice_index xs n
    → IsLeastOf (IsHitIn j owners session low high xs c) 0
none_past j owners session low high xs c rising n inside before over = record { attained = inl refl; least = λ d w. absurd (never d w w.1) }
  where
    never : (d : ℕ) → IsHitIn j owners session low high xs c d → Contains xs d → ⊥
    never d w (k, l, e) = go (cases_lt k n)
      where
        at : get_or xs k 0 ≡ d
        at = get_or_default xs k 0 d l ∙ e

        go : (k < n) ⊎ (n ≤ k) → ⊥
        go (inl early) = before k early (subst (λ (z : ℕ). IsHitIn j owners session low high xs c z) (sym at) w)
        go (inr late) = omega (arith, rising n k 0 late l, at, over, w.4)

pub none_between : (j : Judged) (owners : List ℕ) (session low high : ℕ) (xs : List ℕ) (c : ℕ) → high < low
    → IsLeastOf (IsHitIn j owners session low high xs c) 0
none_between j owners session low high xs c over = record { attained = inl refl; least = λ d w. absurd (omega (arith, w.3, w.4, over)) }

module _ (j : Judged) (numbered : IsBySession j.history.entries) (owners : List ℕ) (known : AreOwners j.history owners) (from : ℕ) (first clock xs : List ℕ)
    (c lane : ℕ) (before : (k : ℕ) → k < lane → (b : ℕ) → IsHitIn j owners (from + k) (slice_index first k) (slice_index clock k) xs c b → ⊥) where
  in_lane : (b : ℕ) (w : IsHit j owners from first clock xs c b) → IsHitIn j owners (from + w.2.0) (slice_index first w.2.0) (slice_index clock w.2.0) xs c b
  in_lane b w = (w.0, w.1, w.2.2, w.2.3, w.2.4, w.3)

  pub lane_found : (below : (b : ℕ) → Contains xs b → b < count j.history) → (found : ℕ) → lane < WIDE → 0 < found
      → IsLeastOf (IsHitIn j owners (from + lane) (slice_index first lane) (slice_index clock lane) xs c) found
      → IsLeastOf (IsHit j owners from first clock xs c) found
  lane_found below found small some is = go is.attained
    where
      go : (found ≡ 0) ⊎ IsHitIn j owners (from + lane) (slice_index first lane) (slice_index clock lane) xs c found
          → IsLeastOf (IsHit j owners from first clock xs c) found
      go (inl none) = absurd (omega (arith, some, none))
      go (inr hit) = record {
        attained = inr (hit.0, hit.1, (lane, small, hit.2, hit.3, hit.4), hit.5);
        least = λ d w. (some, least d w (cases_lt w.2.0 lane) (cases_eq w.2.0 lane));
      }
        where
          apart : (d k : ℕ) → 0 < d → Contains xs d → slice_index owners d ≡ from + k → lane < k → (d < found) ⊎ (found ≤ d) → found ≤ d
          apart d k more there mine far (inr upto) = upto
          apart d k more there mine far (inl less) =
              absurd (omega (
                arith,
                (numbered d found less (below found hit.1)).0,
                known.each d more (below d there),
                known.each found some (below found hit.1),
                mine,
                hit.2,
                far,
              ))

          least : (d : ℕ) (w : IsHit j owners from first clock xs c d) → (w.2.0 < lane) ⊎ (lane ≤ w.2.0) → (w.2.0 ≡ lane) ⊎ ((w.2.0 ≡ lane) → ⊥) → found ≤ d
          least d w (inl early) kind = absurd (before w.2.0 early d (in_lane d w))
          least d w (inr late) (inl same) =
              (is.least d (subst (λ (k : ℕ). IsHitIn j owners (from + k) (slice_index first k) (slice_index clock k) xs c d) same (in_lane d w))).1
          least d w (inr late) (inr other) = apart d w.2.0 w.0 w.1 w.2.2 (omega (arith, late, other)) (cases_lt d found)

  pub lanes_none : WIDE ≤ lane → IsLeastOf (IsHit j owners from first clock xs c) 0
  lanes_none all = record { attained = inl refl; least = λ d w. absurd (before w.2.0 (omega (arith, w.2.1, all)) d (in_lane d w)) }

  pub lanes_more : IsLeastOf (IsHitIn j owners (from + lane) (slice_index first lane) (slice_index clock lane) xs c) 0
      → (k : ℕ) → k < lane + 1 → (b : ℕ) → IsHitIn j owners (from + k) (slice_index first k) (slice_index clock k) xs c b → ⊥
  lanes_more none k l b w = go (cases_eq k lane)
    where
      go : (k ≡ lane) ⊎ ((k ≡ lane) → ⊥) → ⊥
      go (inl same) = omega (
        arith,
        (none.least b (subst (λ (m : ℕ). IsHitIn j owners (from + m) (slice_index first m) (slice_index clock m) xs c b) same w)).0,
      )
      go (inr other) = before k (omega (arith, l, other)) b w
