-- The breadth-first search: what is known after walks of n steps.
use Rattle.std.specs.Prelude.{ℕ, ◌+◌, ◌<◌, ◌≤◌, ◌≡◌, ◌≢◌, ◌⊎◌, ◌↔◌, ◌==◌, ◌&&◌, Bool, true, false, if◌then◌else◌, List, length, Contains}
use Rattle.std.specs.Prelude.{[], count_by, Option, None, Some, slice_index, slice_index_or}
use Rattle.tcc_reads.specs.History.{History, count}
use Rattle.tcc_graph.specs.Relations.{IsSessionPair, causal_pair}
use Rattle.tcc_graph.specs.Levels.{Judged, causally}
use Rattle.tcc_graph.specs.Walks.{IsReached, IsWalk}
use Rattle.tcc_graph.specs.Tables.{row_of}
use Rattle.tcc_graph.specs.declared.step.Step.{Step}
use Rattle.tcc_bits.specs.Bits.{is_marked, words_for}
use Rattle.tcc_near.specs.WalkLengths.{IsShortest, IsWalkLength, least_in}
use Rattle.tcc_near.specs.declared.walk_lengths.TheConstants.{NONE}
use Rattle.tcc_txn.specs.declared.limits.TheConstants.{MAX_COUNT}

-- the marks of a number, and none past the table
abbrev pub marks_of : List (List ℕ) → ℕ → List ℕ
marks_of table a = slice_index_or table a []

-- the numbers that session pairs lead to from u are those after it and below `end`
pub record IsSessionEnd (h : History) (u : ℕ) (end : ℕ) : Type 0 where
  pub order : u + 1 ≤ end
  pub few : end ≤ count h
  pub pairs : (v : ℕ) → IsSessionPair h u v ↔ ((u + 1 ≤ v) × (v < end))

-- for each transaction the end of the numbers that session pairs lead to
pub record AreEnds (h : History) (ends : List ℕ) : Type 0 where
  pub long : length ends ≡ count h
  pub each : (u : ℕ) → u < count h → IsSessionEnd h u (slice_index ends u)

-- session pairs and these readers are the causal pairs from u
abbrev pub IsPairsFrom : History → ℕ → ℕ → List ℕ → Type 0
IsPairsFrom h u end readers = (b : ℕ) → (causal_pair h u b ≡ true) ↔ (((u + 1 ≤ b) × (b < end)) ⊎ Contains readers b)

-- for each transaction the readers among the causal pairs that are not session pairs
pub record AreReaders (h : History) (ends : List ℕ) (readers : List (List ℕ)) : Type 0 where
  pub long : length readers ≡ count h
  pub each : (u : ℕ) → u < count h → IsPairsFrom h u (slice_index ends u) (marks_of readers u)

-- a history, and tables of the causal pairs from each of its transactions
pub record PairTables : Type 0 where
  pub history : History
  pub ends : List ℕ
  pub readers : List (List ℕ)

-- the tables are those of the history: where session pairs end, and the readers among the others
pub record ArePairs (pairs : PairTables) : Type 0 where
  pub few : count pairs.history ≤ MAX_COUNT
  pub ended : AreEnds pairs.history pairs.ends
  pub others : AreReaders pairs.history pairs.ends pairs.readers

-- for each number one from which on, up to the number, all are marked
abbrev pub AreSuffixes : List ℕ → List ℕ → Type 0
AreSuffixes suffixes words = (last : ℕ) (b : ℕ) → last < length suffixes → slice_index suffixes last ≤ b → b ≤ last → is_marked words b ≡ true

-- room for the marks of n numbers, and for each number one from which on, up to it, all are marked
pub record AreMarks (n : ℕ) (words : List ℕ) (suffixes : List ℕ) : Type 0 where
  pub wide : length words ≡ words_for n
  pub long : length suffixes ≡ n
  pub marked : AreSuffixes suffixes words

-- a walk of at most n steps leads from a to b
abbrev pub IsWithin : History → ℕ → ℕ → ℕ → Type 0
IsWithin h a n b = (walk : List Step) × IsWalk h a b walk × (length walk ≤ n)

-- marked are the transactions to which a walk of at most n steps leads
pub record IsMarked (h : History) (a : ℕ) (n : ℕ) (marks : List ℕ) : Type 0 where
  pub exact : (b : ℕ) → b < count h → (is_marked marks b ≡ true) ↔ IsWithin h a n b

-- each transaction that a reaches has a value in the row
pub record IsBoundFrom (h : History) (a : ℕ) (row : List ℕ) : Type 0 where
  pub long : length row ≡ count h
  pub reached : (b : ℕ) → IsReached h a b → slice_index row b ≢ NONE

-- the length if it is at most n, and none if it is more
abbrev pub IsLengthWithin : History → ℕ → ℕ → ℕ → Option ℕ → Type 0
IsLengthWithin h a n b None = IsWithin h a n b → ⊥
IsLengthWithin h a n b (Some d) = (d ≤ n) × IsShortest (causally h) a b d

-- the row has each length that is at most n
pub record IsSearched (h : History) (a : ℕ) (n : ℕ) (row : List ℕ) : Type 0 where
  pub long : length row ≡ count h
  pub exact : (b : ℕ) → b < count h → IsLengthWithin h a n b (least_in row b)

-- the row has each length
pub record HasLengths (j : Judged) (a : ℕ) (row : List ℕ) : Type 0 where
  pub long : length row ≡ count j.history
  pub exact : (b : ℕ) → b < count j.history → IsWalkLength j a b (least_in row b)
  pub short : (b : ℕ) (n : ℕ) → b < count j.history → least_in row b ≡ Some n → n ≤ count j.history

-- a row of lengths for each transaction
pub record HaveLengths (j : Judged) (rows : List (List ℕ)) : Type 0 where
  pub long : length rows ≡ count j.history
  pub each : (a : ℕ) → a < count j.history → HasLengths j a (row_of rows a)

-- b is marked, or marked by one of these
abbrev pub IsSpread : List ℕ → List (List ℕ) → (ℕ → Type 0) → ℕ → Type 0
IsSpread marks table IsOne b = (is_marked marks b ≡ true) ⊎ ((u : ℕ) × IsOne u × (is_marked (marks_of table u) b ≡ true))

-- b is marked, or a causal pair leads there from one of these
abbrev pub IsLedTo : History → List ℕ → (ℕ → Type 0) → ℕ → Type 0
IsLedTo h marks IsOne b = (is_marked marks b ≡ true) ⊎ ((u : ℕ) × IsOne u × (causal_pair h u b ≡ true))

-- the length of b once what is marked and had none got this one
abbrev pub numbered : List ℕ → List ℕ → ℕ → ℕ → ℕ
numbered row marks distance b =
    if is_marked marks b && (slice_index row b == NONE) then distance else slice_index row b

-- how many numbers have no length
abbrev pub unnumbered : List ℕ → ℕ
unnumbered row = count_by (λ distance. distance == NONE) row

-- the length by walks of one step
abbrev pub one_step : Bool → ℕ
one_step mark = if mark then 1 else NONE

-- seen are the numbers that have a length
abbrev pub IsSeen : List ℕ → List ℕ → Type 0
IsSeen row seen = (b : ℕ) → b < length row → (is_marked seen b ≡ false) ↔ (slice_index row b ≡ NONE)

-- what is marked and had no length has got this one: these are the fresh ones, and seen is what has a length now
pub record IsRound (marks : List ℕ) (old : List ℕ) (new : List ℕ) (met : List ℕ) (found : List ℕ) (distance : ℕ) : Type 0 where
  pub each : (b : ℕ) → slice_index new b ≡ numbered old marks distance b
  pub fresh : (b : ℕ) → Contains found b ↔ ((is_marked marks b ≡ true) × (slice_index old b ≡ NONE))
  pub seen : IsSeen new met
  pub fewer : 0 < length found → unnumbered new < unnumbered old
