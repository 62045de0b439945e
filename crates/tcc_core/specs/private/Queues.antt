-- Transactions that are open at a cost.
use Rattle.std.specs.Prelude.{ℕ, ◌≡◌, ◌≢◌, ◌<◌, ◌≤◌, ◌+◌, ◌-◌, ◌%◌, ◌⊎◌, ◌&&◌, List, [], ◌∷◌, length, slice_index, slice_set, nat_lt, ◌==◌, if◌then◌else◌}
use Rattle.tcc_txn.specs.declared.limits.TheConstants.{MAX_COUNT}
use Rattle.tcc_core.specs.declared.bucket_queue.TheConstants.{BUCKETS}
use Rattle.tcc_core.specs.declared.queue.TheConstants.{NO_WAY}

-- For each transaction the cost at which it is open; 0 where it is settled, and NO_WAY where no way was offered. A way that costs as little
-- as the floor is no longer accepted.
pub record Queue : Type 0 where
  pub costs : List ℕ
  pub floor : ℕ

-- an open transaction that none is cheaper than
pub record IsNearest (costs : List ℕ) (v : ℕ) : Type 0 where
  pub below : v < length costs
  pub open_at : 0 < slice_index costs v
  pub reached : slice_index costs v < NO_WAY
  pub least : (u : ℕ) → u < length costs → 0 < slice_index costs u → slice_index costs v ≤ slice_index costs u

-- one of those that costs at most the cap; it is in the window that begins at the floor
pub record IsNext (queue : Queue) (cap v : ℕ) : Type 0 where
  pub near : IsNearest queue.costs v
  pub within : slice_index queue.costs v ≤ cap
  pub above : queue.floor ≤ slice_index queue.costs v
  pub window : slice_index queue.costs v < queue.floor + BUCKETS

-- no open transaction costs at most the cap
abbrev pub IsPast : ℕ → List ℕ → Type 0
IsPast cap costs = (u : ℕ) → u < length costs → 0 < slice_index costs u → slice_index costs u < NO_WAY → cap < slice_index costs u

-- nothing is open, and nothing settled
abbrev pub IsUnreached : List ℕ → Type 0
IsUnreached costs = (v : ℕ) → v < length costs → slice_index costs v ≡ NO_WAY

-- this many transactions, to none of which a way is known
pub record IsBeginning (count : ℕ) (queue : Queue) : Type 0 where
  pub long : length queue.costs ≡ count
  pub none : IsUnreached queue.costs
  pub floor : queue.floor ≡ 0

-- A way to v at this cost is accepted where it costs more than the floor, at most one link more, and less than what is known.
abbrev pub offered : ℕ → List ℕ → ℕ → ℕ → List ℕ
offered floor costs v cost = if nat_lt floor cost && (nat_lt (cost - floor) BUCKETS && nat_lt cost (slice_index costs v)) then slice_set costs v cost else costs

-- ---- how they are in the buckets

-- a transaction that is open at this cost is in this bucket
pub record IsOpen (floor most cost b : ℕ) : Type 0 where
  pub some : 0 < cost
  pub above : floor ≤ cost
  pub below : cost ≤ most
  pub at : b ≡ cost % BUCKETS

-- one that is settled or was not reached is in no bucket
pub record IsShut (cost b : ℕ) : Type 0 where
  pub none : (cost ≡ NO_WAY) ⊎ (cost ≡ 0)
  pub out : BUCKETS ≤ b

-- no way leads to v, and it is in no bucket
abbrev pub IsFar : List ℕ → List ℕ → ℕ → Type 0
IsFar costs buckets v = (slice_index costs v ≡ NO_WAY) × (BUCKETS ≤ slice_index buckets v)

pub record IsFiled (floor most : ℕ) (costs buckets : List ℕ) : Type 0 where
  pub long : length costs ≡ length buckets
  pub window : most < floor + BUCKETS
  pub few : most < NO_WAY
  pub each : (v : ℕ) → v < length costs → IsShut (slice_index costs v) (slice_index buckets v) ⊎ IsOpen floor most (slice_index costs v) (slice_index buckets v)

-- how many were reached
abbrev pub count_reached : List ℕ → ℕ
count_reached [] = 0
count_reached (cost ∷ costs) = if cost == NO_WAY then count_reached costs else (count_reached costs + 1)

-- each one that was reached is in the list of those, before the index where the next one comes
pub record IsListed (held : ℕ) (listed costs : List ℕ) : Type 0 where
  pub long : length listed ≡ length costs
  pub few : length listed ≤ MAX_COUNT
  pub counted : held ≡ count_reached costs
  pub below : (k : ℕ) → k < held → slice_index listed k < length costs
  pub each : (v : ℕ) → v < length costs → slice_index costs v ≢ NO_WAY → (k : ℕ) × (k < held) × (slice_index listed k ≡ v)
