-- Which writers contradict a read, by the rows of a block of sessions.
use Rattle.std.specs.Prelude.{ℕ, ◌<◌, ◌≤◌, ◌+◌, ◌-◌, ◌^◌, ◌≡◌, ◌⊎◌, true, List, length, take, drop, slice_index, slice_index_or, All, Contains}
use Rattle.std.specs.List.Sorted.{IsNonDecreasing}
use Rattle.tcc_reads.specs.History.{History, IsBySession, count, owner}
use Rattle.tcc_graph.specs.Relations.{causal_pair, IsReadsPair}
use Rattle.tcc_graph.specs.Keys.{keys, key_at, writers}
use Rattle.tcc_graph.specs.Levels.{Judged, judged}
use Rattle.tcc_graph.specs.declared.level.Level.{Level}
use Rattle.tcc_graph.specs.declared.level.Level.TheVariants as level
use Rattle.tcc_clocks.specs.Clocks.{AreOwners, AreClocks}
use Rattle.tcc_survey.specs.private.Firsts.{AreFirsts}
use Rattle.tcc_clocks.specs.declared.latest.TheConstants.{WIDE}
use Rattle.tcc_survey.specs.declared.external_reads.Reading.{Reading}
use Rattle.tcc_survey.specs.declared.scanning.Scan.{Scan}
use Rattle.tcc_survey.specs.declared.scanning.ReadSweep.{ReadSweep}
use Rattle.tcc_survey.specs.Circles.{IsAcyclic}
use Rattle.tcc_survey.specs.Contradictions.{IsContradictedBy}

-- the least number that is one of those meant, or 0 where there is none; 0 itself isn't meant
pub record IsLeastOf (Is : ℕ → Type 0) (b : ℕ) : Type 0 where
  pub attained : (b ≡ 0) ⊎ Is b
  pub least : (d : ℕ) → Is d → (0 < b) × (b ≤ d)

-- b is of session k of the block, and no earlier there than the one row says and no later than the other
abbrev pub IsWithin : List ℕ → ℕ → List ℕ → List ℕ → ℕ → Type 0
IsWithin owners from first clock b =
    (k : ℕ) × (k < WIDE) × (slice_index owners b ≡ from + k) × (slice_index first k ≤ b) × (b ≤ slice_index clock k)

-- what a level asks of b beyond that it reaches c
abbrev pub IsKnown : Level → History → ℕ → ℕ → Type 0
IsKnown level.Causal h b c = Unit {0}
IsKnown level.Atomic h b c = causal_pair h b c ≡ true

-- b, one of these writers, lies between the rows and is known to c
abbrev pub IsHit : Judged → List ℕ → ℕ → List ℕ → List ℕ → List ℕ → ℕ → ℕ → Type 0
IsHit j owners from first clock among c b = (0 < b) × Contains among b × IsWithin owners from first clock b × IsKnown j.level j.history b c

-- b, one of these writers, is of the session, from `low` up to `high`, and known to c
abbrev pub IsHitIn : Judged → List ℕ → ℕ → ℕ → ℕ → List ℕ → ℕ → ℕ → Type 0
IsHitIn j owners session low high among c b =
    (0 < b) × Contains among b × (slice_index owners b ≡ session) × (low ≤ b) × (b ≤ high) × IsKnown j.level j.history b c

-- the transactions of the block's history are numbered by sessions and are in no circle, and the clocks are those of its sessions
pub record IsBlock (s : ReadSweep) : Type 0 where
  pub numbered : IsBySession s.block.graph.now.entries
  pub room : s.block.from + WIDE < 2 ^ 32
  pub acyclic : IsAcyclic s.block.graph.now
  pub owned : AreOwners s.block.graph.now s.block.owners.now
  pub first : AreFirsts s.block.graph.now s.block.from s.firsts.now
  pub clock : AreClocks s.block.graph.now s.block.from s.clocks.now

-- the writers, which rise, are transactions, and so is the reader; the rows are as wide as a block
pub record MayHit (s : Scan) : Type 0 where
  pub numbered : IsBySession s.block.graph.now.entries
  pub owned : AreOwners s.block.graph.now s.block.owners.now
  pub room : s.block.from + WIDE < 2 ^ 32
  pub inside : All (λ b. b < count s.block.graph.now) s.writers.now
  pub rising : IsNonDecreasing s.writers.now
  pub first_wide : length s.first.now ≡ WIDE
  pub clock_wide : length s.clock.now ≡ WIDE
  pub reader : s.reader < count s.block.graph.now

-- b is a hit of the scan
abbrev pub IsHitOf : Scan → ℕ → Type 0
IsHitOf s b = IsHit (judged s.block.graph.now s.level) s.block.owners.now s.block.from s.first.now s.clock.now s.writers.now s.reader b

-- b is a hit of the scan in one session of the block
abbrev pub IsHitOnLane : Scan → ℕ → ℕ → Type 0
IsHitOnLane s lane b =
    IsHitIn (judged s.block.graph.now s.level) s.block.owners.now (s.block.from + lane) (slice_index s.first.now lane) (slice_index s.clock.now lane) s.writers.now s.reader b

-- b is a hit of the scan, of the reader's session
abbrev pub IsOwnHit : Scan → ℕ → Type 0
IsOwnHit s b = IsHitOf s b × (slice_index s.block.owners.now b ≡ slice_index s.block.owners.now s.reader)

-- some writers of the key, and all that are of the block; they rise
pub record AreWritersIn (h : History) (from : ℕ) (x : List ℕ) (among : List ℕ) : Type 0 where
  pub listed : (b : ℕ) → Contains among b → Contains (writers h x) b
  pub all : (b : ℕ) → 0 < b → Contains (writers h x) b → from ≤ owner h b → owner h b < from + WIDE → Contains among b
  pub rising : IsNonDecreasing among

-- b contradicts the read
abbrev pub IsAgainst : Judged → Reading → ℕ → Type 0
IsAgainst j r b = IsContradictedBy j r.reader (key_at j.history r.key_index) r.source b

-- the least that contradicts it of those whose session comes before the one of this index
abbrev pub IsLeastBefore : Judged → ℕ → Reading → ℕ → Type 0
IsLeastBefore j bound r b = IsLeastOf (λ d. IsAgainst j r d × (owner j.history d < bound)) b

-- the transaction reads the key from its source
pub record IsReading (h : History) (r : Reading) : Type 0 where
  pub key : r.key_index < length (keys h)
  pub pair : IsReadsPair h r.source r.reader (key_at h r.key_index)

-- the read at an index
abbrev pub reading_of : List Reading → ℕ → Reading
reading_of all k = slice_index_or all k (record { reader = 0; index = 0; key_index = 0; source = 0 })

-- each of these reads what it says
abbrev pub AreReads : History → List Reading → Type 0
AreReads h all = (k : ℕ) → k < length all → IsReading h (reading_of all k)

-- of each the least that contradicts it of those whose session comes before the one of this index
pub record AreSettled (j : Judged) (all : List Reading) (bound : ℕ) (found : List ℕ) : Type 0 where
  pub long : length found ≡ length all
  pub each : (k : ℕ) → k < length all → IsLeastBefore j bound (reading_of all k) (slice_index found k)

-- the writers of a key from the one index to before the other
abbrev pub in_span : List ℕ → ℕ × ℕ → List ℕ
in_span xs span = take (span.1 - span.0) (drop span.0 xs)

-- of each key those that begin and end at these indices are its writers in the block
pub record AreSpansIn (h : History) (from : ℕ) (spans : List (ℕ × ℕ)) : Type 0 where
  pub long : length spans ≡ length (keys h)
  pub within : (k : ℕ) → k < length (keys h) → (slice_index_or spans k (0, 0)).1 ≤ length (writers h (key_at h k))
  pub each : (k : ℕ) → k < length (keys h) → AreWritersIn h from (key_at h k) (in_span (writers h (key_at h k)) (slice_index_or spans k (0, 0)))

-- of each read the least that contradicts it, or 0
pub record AreFound (j : Judged) (all : List Reading) (found : List ℕ) : Type 0 where
  pub long : length found ≡ length all
  pub each : (k : ℕ) → k < length all → IsLeastOf (IsAgainst j (reading_of all k)) (slice_index found k)
