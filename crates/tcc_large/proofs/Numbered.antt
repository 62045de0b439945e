-- Cells that were given the numbers from 1 on, one after another: no more numbers than cells.
use Rattle.std.proofs.Common.{ℕ, zero, suc, ◌+◌, ◌<◌, ◌≤◌, ◌≡◌, ◌≢◌, ◌⊎◌, inl, inr, true, eqb, List, ◌∷◌, length, set, refl, sym, subst, ◌∙◌, arith}
use Rattle.std.specs.Prelude.{slice_index}
use Rattle.std.specs.List.{list_any}
use Rattle.std.proofs.lemmas.Bool.{cases_lt, cases_eq, eq-eqb}
use Rattle.std.proofs.lemmas.List.{get_or_past, get_or-set_same, get_or-set_other}
use Rattle.std.proofs.lemmas.List.Folds.{list_any_at}
use Rattle.std.proofs.lemmas.Map.Steps.{le-length_from_below}

-- each number from 1 to below n is in a cell
abbrev pub AreNumbered : List ℕ → ℕ → Type 0
AreNumbered cells n = (r : ℕ) → 0 < r → r < n → (v : ℕ) × (slice_index cells v ≡ r)

-- what isn't 0 is in a cell
pub cell_inside : (cells : List ℕ) (v : ℕ) → 0 < slice_index cells v → v < length cells
cell_inside cells v some = go (cases_lt v (length cells))
  where
    go : (v < length cells) ⊎ (length cells ≤ v) → v < length cells
    go (inl less) = less
    go (inr past) = absurd (omega (arith, some, get_or_past cells v 0 past))

pub numbered_room : (cells : List ℕ) (n : ℕ) → AreNumbered cells n → n ≤ length cells + 1
numbered_room cells n numbered = omega (arith, le-length_from_below (0 ∷ cells) n each)
  where
    each : (r : ℕ) → r < n → list_any (eqb r) (0 ∷ cells) ≡ true
    each zero l = refl
    each (suc r) l =
        let w = numbered (suc r) (omega arith) l in
        list_any_at (eqb (suc r)) (0 ∷ cells) (suc w.0) 0 (omega (arith, cell_inside cells w.0 (omega (arith, w.1)))) (eq-eqb (suc r) (slice_index cells w.0) (sym w.1))

pub numbered_more : (cells : List ℕ) (n v : ℕ) → v < length cells → slice_index cells v ≡ 0 → AreNumbered cells n → AreNumbered (set cells v n) (n + 1)
numbered_more cells n v inside none numbered r some below = go (cases_eq r n)
  where
    older : (w : ℕ) × (slice_index cells w ≡ r) → (w : ℕ) × (slice_index (set cells v n) w ≡ r)
    older (w, at) =
        let other : w ≢ v = λ same. absurd (omega (arith, subst (λ (z : ℕ). slice_index cells z ≡ r) same at, none, some)) in
        (w, get_or-set_other cells v w n 0 other ∙ at)

    go : (r ≡ n) ⊎ (r ≡ n → ⊥) → (w : ℕ) × (slice_index (set cells v n) w ≡ r)
    go (inl same) = (v, get_or-set_same cells v n 0 inside ∙ sym same)
    go (inr less) = older (numbered r some (omega (arith, below, less)))
