-- Which readings the transactions of some sessions contradict, and how far after their sources.
use Rattle.std.specs.Prelude.{ℕ, ◌<◌, ◌≤◌, ◌≡◌, ◌⊎◌, ◌↔◌, Bool, true, false, List, length, slice_index, slice_index_or}
use Rattle.tcc_reads.specs.History.{History, owner}
use Rattle.tcc_graph.specs.Keys.{keys, key_at}
use Rattle.tcc_graph.specs.Levels.{causally}
use Rattle.tcc_graph.specs.Links.{IsReason}
use Rattle.tcc_graph.specs.Orders.{Before}
use Rattle.tcc_graph.specs.declared.step.Step.{Step}
use Rattle.tcc_judge.specs.Spanned.{IsStaleKey}
use Rattle.tcc_judge.specs.private.Behind.{IsBehindBy}
use Rattle.tcc_judge.specs.private.Readings.{IsByReading}

-- the greatest of the numbers that are meant; where there is none, it may be 0
pub record IsGreatestOf (Is : ℕ → Type 0) (greatest : ℕ) : Type 0 where
  pub attained : (greatest ≡ 0) ⊎ Is greatest
  pub highest : (n : ℕ) → Is n → n ≤ greatest

-- some transaction of the block comes after and has to come before
abbrev pub IsBehindSome : History → List ℕ → ℕ → ℕ → List ℕ → ℕ → Type 0
IsBehindSome h order from place x c = (b : ℕ) × IsBehindBy h order from place x c b

-- a transaction at this position comes after and has to come before
abbrev pub IsBehindAt : History → List ℕ → List ℕ → ℕ → ℕ → List ℕ → ℕ → ℕ → Type 0
IsBehindAt h order positions from place x c position = (b : ℕ) × IsBehindBy h order from place x c b × (slice_index positions b ≡ position)

-- a transaction of one of the first sessions of the block, at this position, does so
abbrev pub IsInLanes : History → List ℕ → List ℕ → ℕ → ℕ → List ℕ → ℕ → ℕ → ℕ → Type 0
IsInLanes h order positions from place x c end position =
    (b : ℕ) × (is : IsBehindBy h order from place x c b) × (is.session < end) × (slice_index positions b ≡ position)

-- a transaction at this position does so by one of the readings of a
abbrev pub IsBehindTo : History → List ℕ → List ℕ → ℕ → ℕ → ℕ → ℕ → Type 0
IsBehindTo h order positions from place a position = IsByReading h a (IsBehindAt h order positions from place) position

-- a transaction of the sessions from `from` to before `end` has to come before a, since c reads x from a, and does not
pub record IsContradictedBy (h : History) (order : List ℕ) (from : ℕ) (end : ℕ) (a : ℕ) (x : List ℕ) (c : ℕ) : Type 0 where
  pub by : ℕ
  pub committed : 0 < by
  pub low : from ≤ owner h by
  pub high : owner h by < end
  pub walk : List Step
  pub reason : IsReason (causally h) by a x c walk
  pub apart : Before order by a → ⊥

-- such a transaction has this position
pub record IsReadTo (h : History) (order : List ℕ) (positions : List ℕ) (from : ℕ) (end : ℕ) (a : ℕ) (position : ℕ) : Type 0 where
  pub key : List ℕ
  pub reader : ℕ
  pub contradicted : IsContradictedBy h order from end a key reader
  pub here : slice_index positions contradicted.by ≡ position

-- what the sessions before one contradict. For each place but that of `init`: the last position of a transaction that has to come before it
-- and doesn't. For each key: whether a reading from `init` is contradicted
pub record AreContradictedTo (h : History) (order : List ℕ) (positions : List ℕ) (end : ℕ) (lasts : List ℕ) (stale : List Bool) : Type 0 where
  pub long : length lasts ≡ length order
  pub first : slice_index lasts 0 ≡ 0
  pub each : (place : ℕ) → 0 < place → place < length order
      → IsGreatestOf (IsReadTo h order positions 0 end (slice_index order place)) (slice_index lasts place)
  pub keys_long : length stale ≡ length (keys h)
  pub of_key : (k : ℕ) → k < length (keys h) → (slice_index_or stale k false ≡ true) ↔ ((c : ℕ) × IsContradictedBy h order 0 end 0 (key_at h k) c)

-- a transaction at this position has to come before a, and does not
abbrev pub IsLedBackTo : History → List ℕ → List ℕ → ℕ → ℕ → Type 0
IsLedBackTo h order positions a position =
    (b : ℕ) × (x : List ℕ) × (c : ℕ) × (walk : List Step) × IsReason (causally h) b a x c walk × (Before order b a → ⊥) × (slice_index positions b ≡ position)

-- what all sessions contradict
pub record AreContradicted (h : History) (order : List ℕ) (positions : List ℕ) (lasts : List ℕ) (stale : List Bool) : Type 0 where
  pub long : length lasts ≡ length order
  pub first : slice_index lasts 0 ≡ 0
  pub each : (place : ℕ) → 0 < place → place < length order
      → IsGreatestOf (IsLedBackTo h order positions (slice_index order place)) (slice_index lasts place)
  pub keys_long : length stale ≡ length (keys h)
  pub of_key : (k : ℕ) → k < length (keys h) → (slice_index_or stale k false ≡ true) ↔ IsStaleKey h k
