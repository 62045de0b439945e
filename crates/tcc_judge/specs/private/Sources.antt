-- Which transactions of a block have to come before one that comes before them: as a pass goes forward along an order.
use Rattle.std.specs.Prelude.{ℕ, ◌<◌, ◌≤◌, ◌≡◌, ◌-◌, ◌⊎◌, ◌↔◌, min, Bool, true, false, List, length, slice_index, slice_index_or}
use Rattle.tcc_reads.specs.History.{History, count, owner}
use Rattle.tcc_graph.specs.Keys.{keys, key_at, writes}
use Rattle.tcc_graph.specs.Relations.{IsReadsPair}
use Rattle.tcc_graph.specs.Tables.{row_of}
use Rattle.tcc_clocks.specs.declared.latest.TheConstants.{WIDE}
use Rattle.tcc_judge.specs.Spanned.{IsLeadingBack}
use Rattle.tcc_judge.specs.declared.least.TheConstants.{NONE}
use Rattle.tcc_judge.specs.private.Blocks.{IsInLane}
use Rattle.tcc_judge.specs.private.Least.{IsLeastOf}

-- how far a number is below `NONE`
abbrev pub gap_of : ℕ → ℕ
gap_of number = NONE - number

-- for a key the gaps of the first sessions are lowered to those of a clock, and all others are unchanged
pub record AreLoweredTo (key_index : ℕ) (clock : List ℕ) (end : ℕ) (old : List (List ℕ)) (new : List (List ℕ)) : Type 0 where
  pub long : length new ≡ length old
  pub wide : (k : ℕ) → k < length old → length (row_of new k) ≡ length (row_of old k)
  pub here : (s : ℕ) → s < end → slice_index (row_of new key_index) s ≡ min (gap_of (slice_index clock s)) (slice_index (row_of old key_index) s)
  pub left : (s : ℕ) → end ≤ s → slice_index (row_of new key_index) s ≡ slice_index (row_of old key_index) s
  pub others : (k s : ℕ) → k < length old → (k ≡ key_index → ⊥) → slice_index (row_of new k) s ≡ slice_index (row_of old k) s

-- for each key and each session the gap is the least of what it was and of those that are meant
pub record AreLoweredWith (By : ℕ → ℕ → ℕ → Type 0) (old : List (List ℕ)) (new : List (List ℕ)) : Type 0 where
  pub long : length new ≡ length old
  pub wide : (k : ℕ) → k < length old → length (row_of new k) ≡ length (row_of old k)
  pub each : (k s : ℕ) → k < length old → s < WIDE
      → IsLeastOf (λ n. (n ≡ slice_index (row_of old k) s) ⊎ By k s n) (slice_index (row_of new k) s)

-- for each key and each session the least of the gaps that are meant
pub record AreGaps (h : History) (Is : ℕ → ℕ → ℕ → Type 0) (table : List (List ℕ)) : Type 0 where
  pub long : length table ≡ length (keys h)
  pub wide : (k : ℕ) → k < length (keys h) → length (row_of table k) ≡ WIDE
  pub each : (k s : ℕ) → k < length (keys h) → s < WIDE → IsLeastOf (Is k s) (slice_index (row_of table k) s)

-- the gap of a session in the clock of a reader of the key from a
abbrev pub IsGapBy : History → List (List ℕ) → ℕ → ℕ → ℕ → ℕ → Type 0
IsGapBy h clocks a k s n = (c : ℕ) × IsReadsPair h a c (key_at h k) × (gap_of (slice_index (row_of clocks c) s) ≡ n)

-- the same by one of the first readings of a
abbrev pub IsGapIn : List (List ℕ) → List ℕ → List ℕ → ℕ → ℕ → ℕ → ℕ → Type 0
IsGapIn clocks readers key_indices end k s n =
    (i : ℕ) × (i < end) × (slice_index key_indices i ≡ k) × (gap_of (slice_index (row_of clocks (slice_index readers i)) s) ≡ n)

-- the same from one of the first places of the order, if something leads back there
abbrev pub IsGapTo : History → List (List ℕ) → List ℕ → List ℕ → ℕ → ℕ → ℕ → ℕ → Type 0
IsGapTo h clocks order lasts end k s n =
    (i : ℕ) × (i < end) × (0 < slice_index lasts i) × IsGapBy h clocks (slice_index order i) k s n

-- b writes a key whose gap for a session is no greater than b's own
abbrev pub IsReaching : History → List (List ℕ) → ℕ → ℕ → Type 0
IsReaching h table s b =
    (k : ℕ) × (k < length (keys h)) × (writes h b (key_at h k) ≡ true) × (slice_index (row_of table k) s ≤ gap_of b)

-- so does b, of a session of the block
abbrev pub IsReachingIn : History → List ℕ → ℕ → List (List ℕ) → ℕ → Type 0
IsReachingIn h owners from table b = (s : ℕ) × IsInLane owners from b s × IsReaching h table s b

-- v is at a place, and reached a reader when the pass came to that place
pub record IsReachingAt (h : History) (owners : List ℕ) (from : ℕ) (clocks : List (List ℕ)) (order : List ℕ) (lasts : List ℕ) (place : ℕ) (v : ℕ) : Type 0 where
  pub here : slice_index order place ≡ v
  pub session : ℕ
  pub lane : IsInLane owners from v session
  pub key_index : ℕ
  pub inside : key_index < length (keys h)
  pub writes_it : writes h v (key_at h key_index) ≡ true
  pub gap : ℕ
  pub is : IsGapTo h clocks order lasts place key_index session gap
  pub low : gap ≤ gap_of v

-- of the transactions of the sessions before one, those are marked that have to come before one that comes before them
pub record AreSourcesTo (h : History) (order : List ℕ) (end : ℕ) (marks : List Bool) : Type 0 where
  pub long : length marks ≡ count h
  pub each : (v : ℕ) → v < count h → (slice_index_or marks v false ≡ true) ↔ (IsLeadingBack h order v × (owner h v < end))

-- the same for all transactions
pub record AreSources (h : History) (order : List ℕ) (marks : List Bool) : Type 0 where
  pub long : length marks ≡ count h
  pub each : (v : ℕ) → v < count h → (slice_index_or marks v false ≡ true) ↔ IsLeadingBack h order v
