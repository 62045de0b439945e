-- The marks of sessions: after each, all were reached by a session pair.
use Rattle.std.proofs.Common.{◌≡◌, ◌≢◌, ◌<◌, ◌≤◌, ◌+◌, ℕ, ◌⊎◌, inl, inr, List, length, set, length-set, slice_index, sym, ◌∙◌, arith}
use Rattle.std.proofs.lemmas.Bool.{cases_lt, cases_eq}
use Rattle.std.proofs.lemmas.List.{get_or-set_same, get_or-set_other}
use Rattle.tcc_core.specs.private.Offers.{IsMarked}
use Rattle.tcc_txn.specs.declared.limits.TheConstants.{MAX_COUNT}
use Rattle.tcc_core.specs.declared.frontier.TheConstants.{UNMARKED}
use Rattle.tcc_core.specs.declared.queue.TheConstants.{NO_WAY}

pub marked_none : (floor : ℕ) (costs marks : List ℕ) → length marks ≡ length costs → ((v : ℕ) → v < length costs → v < slice_index marks v)
    → IsMarked floor costs marks
marked_none floor costs marks long none = record {
  long = long;
  each = λ last v inside from to. absurd (omega (arith, none last inside));
}

pub marked_settled : (floor : ℕ) (costs marks : List ℕ) (v : ℕ) → IsMarked floor costs marks → v < length costs → floor ≤ slice_index costs v
    → IsMarked (slice_index costs v) (set costs v 0) marks
marked_settled floor costs marks v is within up = record {
  long = is.long ∙ sym (length-set costs v 0);
  each = λ last u inside from to. each u (is.each last u (omega (arith, length-set costs v 0)) from to) (cases_eq u v);
}
  where
    each : (u : ℕ) → slice_index costs u ≤ floor + 1 → (u ≡ v) ⊎ (u ≡ v → ⊥) → slice_index (set costs v 0) u ≤ slice_index costs v + 1
    each u low (inl same) = rw same (omega (arith, get_or-set_same costs v 0 0 within))
    each u low (inr other) = omega (arith, get_or-set_other costs v u 0 0 other)

-- what has a mark in front of it was reached
pub marked_reached : (floor : ℕ) (costs marks : List ℕ) (v : ℕ) → IsMarked floor costs marks → floor < 2147483648 → v < length costs
    → slice_index marks v ≤ v → slice_index costs v ≢ NO_WAY
marked_reached floor costs marks v is small within marked e = omega (arith, is.each v v within marked (omega arith))

-- ---- the transactions of a session from one number to before another, each at one more than the floor

abbrev pub IsLaterWay : ℕ → ℕ → ℕ → ℕ → ℕ → Type 0
IsLaterWay floor from end v n = (from ≤ v) × (v < end) × (floor + 1 ≡ n)

-- ---- all marks removed

pub unmarked_all : (floor : ℕ) (costs marks marks' new : List ℕ) → IsMarked floor costs marks → floor < 2147483648 → length costs ≤ MAX_COUNT
    → length marks' ≡ length marks → length new ≡ length costs
    → ((v : ℕ) → v < length marks → slice_index costs v ≢ NO_WAY → slice_index marks' v ≡ UNMARKED)
    → ((v : ℕ) → v < length marks → (slice_index marks' v ≡ slice_index marks v) ⊎ (slice_index marks' v ≡ UNMARKED))
    → IsMarked 0 new marks'
unmarked_all floor costs marks marks' new is small few same long cleared kept =
    marked_none 0 new marks' (same ∙ is.long ∙ sym long) (λ v within. each v (omega (arith, long)) (kept v (omega (arith, long, is.long))))
  where
    each : (v : ℕ) → v < length costs → (slice_index marks' v ≡ slice_index marks v) ⊎ (slice_index marks' v ≡ UNMARKED) → v < slice_index marks' v
    each v within (inr none) = omega (arith, none)
    each v within (inl stays) = go (cases_lt v (slice_index marks v))
      where
        go : (v < slice_index marks v) ⊎ (slice_index marks v ≤ v) → v < slice_index marks' v
        go (inl past) = omega (arith, stays)
        go (inr marked) = omega (arith, few, cleared v (omega (arith, is.long)) (marked_reached floor costs marks v is small within marked))
