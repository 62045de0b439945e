-- Ways to everything that a row marks, and rows of what is met at some cost.
use Rattle.std.specs.Prelude.{ℕ, true, ◌≡◌, ◌<◌, ◌≤◌, ◌+◌, List, length, slice_index}
use Rattle.std.specs.Int.{bit_at}
use Rattle.tcc_bits.specs.Bits.{is_marked}
use Rattle.tcc_core.specs.private.Queues.{Queue}
use Rattle.tcc_core.specs.private.Offers.{IsOffered}
use Rattle.tcc_core.specs.declared.bucket_queue.TheConstants.{BUCKETS}
use Rattle.tcc_txn.specs.declared.limits.TheConstants.{LARGE_COUNT}

-- what the row marks is open at no more than the cost, or settled
abbrev pub IsMet : ℕ → List ℕ → List ℕ → Type 0
IsMet cost met costs = (v : ℕ) → v < length costs → is_marked met v ≡ true → slice_index costs v ≤ cost

-- a way at this cost to a number that the word marks, where its lowest bit is the number `first`
abbrev pub IsWordWay : ℕ → ℕ → ℕ → ℕ → ℕ → Type 0
IsWordWay word first cost v n = (i : ℕ) × (i < 64) × (bit_at word i ≡ 1) × (v ≡ first + i) × (cost ≡ n)

-- a way at this cost to a number from s upward that the row marks
abbrev pub IsMarkWay : List ℕ → ℕ → ℕ → ℕ → ℕ → Type 0
IsMarkWay marks s cost v n = (s ≤ v) × (is_marked marks v ≡ true) × (cost ≡ n)

-- ways at a cost may be offered to everything that a row marks; the row of what is met at that cost has the same length
pub record MayOfferMarked (cost : ℕ) (met marks : List ℕ) (queue : Queue) : Type 0 where
  pub same : length met ≡ length marks
  pub few : length marks ≤ LARGE_COUNT
  pub within : (v : ℕ) → is_marked marks v ≡ true → v < length queue.costs
  pub above : queue.floor < cost
  pub window : cost < queue.floor + BUCKETS
  pub is_met : IsMet cost met queue.costs

-- exactly such ways at a cost were offered, and to what is met at it
pub record HasOffered (IsWay : ℕ → ℕ → Type 0) (cost : ℕ) (old_met new_met : List ℕ) (old new : Queue) : Type 0 where
  pub same : length new_met ≡ length old_met
  pub floor : new.floor ≡ old.floor
  pub met : IsMet cost new_met new.costs
  pub offered : IsOffered IsWay old.floor old.costs new.costs
