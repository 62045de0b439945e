-- Which transactions are new: the writers that were noted so far along an order, and the readings that may tell more of their
-- source than its clock does.
use Rattle.std.specs.Prelude.{ℕ, ◌<◌, ◌≤◌, ◌+◌, ◌%◌, ◌≡◌, ◌≢◌, ◌⊎◌, ◌↔◌, max, List, length, slice_index, Contains}
use Rattle.tcc_reads.specs.History.{History, count}
use Rattle.tcc_graph.specs.Relations.{IsReadsPair}
use Rattle.tcc_graph.specs.Keys.{keys, key_at, writers}
use Rattle.tcc_graph.specs.Tables.{row_of}
use Rattle.tcc_graph.specs.Walks.{IsReached}
use Rattle.tcc_clocks.specs.Clocks.{AreLatestOf, IsBefore, IsOneOf, IsOutside}
use Rattle.tcc_clocks.specs.private.Rows.{with_own}
use Rattle.tcc_clocks.specs.declared.side.Side.TheVariants.{Past}
use Rattle.tcc_clocks.specs.declared.latest.TheConstants.{WIDE}

-- the row of c says what reaches it
abbrev pub HasClock : History → ℕ → List (List ℕ) → ℕ → Type 0
HasClock h from table c = AreLatestOf h (IsBefore h c) from (row_of table c)

-- c is a transaction of the block
abbrev pub IsOfBlock : List ℕ → ℕ → ℕ → Type 0
IsOfBlock owners from c = (0 < c) × (from ≤ slice_index owners c) × (slice_index owners c < from + WIDE)

-- no transaction of the block is before this position of the order
abbrev pub NoneBefore : List ℕ → ℕ → List ℕ → ℕ → Type 0
NoneBefore owners from order n = (j : ℕ) → j < n → IsOutside owners from (slice_index order j)

-- b is a writer of the key at this index, and is in the set
abbrev pub IsWriterAmong : History → ℕ → (ℕ → Type 0) → ℕ → Type 0
IsWriterAmong h key_index Among b = Contains (writers h (key_at h key_index)) b × Among b

-- no writer in the set is past the number that the rows have for its key and its session; keys may share a row
abbrev pub AreNoted : History → ℕ → (ℕ → Type 0) → List (List ℕ) → Type 0
AreNoted h from Among rows =
    (key_index k b : ℕ) → key_index < length (keys h) → k < WIDE → IsOneOf h (IsWriterAmong h key_index Among) (from + k) b
    → b ≤ slice_index (row_of rows (key_index % length rows)) k

-- no number in the rows became less
abbrev pub HaveRisen : List (List ℕ) → List (List ℕ) → Type 0
HaveRisen old new = (index k : ℕ) → slice_index (row_of old index) k ≤ slice_index (row_of new index) k

-- and each of these keys has at least this number at the session now
abbrev pub AreRaised : List ℕ → ℕ → ℕ → List (List ℕ) → List (List ℕ) → Type 0
AreRaised key_indices session number old new =
    HaveRisen old new × ((key_index : ℕ) → Contains key_indices key_index → number ≤ slice_index (row_of new (key_index % length new)) session)

-- for session k what the clock of a holds, and a itself; what is at most the floor is in no session of the block
abbrev pub known_of : List ℕ → ℕ → ℕ → List ℕ → ℕ → ℕ → ℕ
known_of owners from floor clock a k = with_own Past owners from a k (max (slice_index clock k) floor)

-- each transaction of the block is above the floor
abbrev pub IsFloor : List ℕ → ℕ → ℕ → Type 0
IsFloor owners from floor = (b : ℕ) → 0 < b → b < length owners → from ≤ slice_index owners b → slice_index owners b < from + WIDE → floor < b

-- b is a transaction of session k of the block
abbrev pub IsOfLane : History → ℕ → ℕ → ℕ → Type 0
IsOfLane h from k b = IsOneOf h (λ b. Unit {0}) (from + k) b

-- z is a transaction of the block that this clock holds
abbrev pub IsHeld : List ℕ → ℕ → List ℕ → ℕ → Type 0
IsHeld owners from clock z = (z < length owners) × ((k : ℕ) × (k < length clock) × (slice_index owners z ≡ from + k) × (z ≤ slice_index clock k))

-- z is at most the floor, so no transaction of the block, or it is a, or the clock holds it
abbrev pub IsKnown : List ℕ → ℕ → ℕ → List ℕ → ℕ → ℕ → Type 0
IsKnown owners from floor clock a z = (z ≤ floor) ⊎ ((z ≡ a) ⊎ IsHeld owners from clock z)

-- z is above the floor, and b is the head z or reaches it, if z is a transaction
abbrev pub IsHead : History → ℕ → ℕ → ℕ → Type 0
IsHead h floor b z = (floor < z) × ((count h ≤ z) ⊎ ((b ≡ z) ⊎ IsReached h b z))

-- each writer in the set has the head of its key
abbrev pub HaveHeads : History → ℕ → ℕ → (ℕ → Type 0) → List ℕ → Type 0
HaveHeads h from floor Among heads =
    (key_index k b : ℕ) → key_index < length (keys h) → k < WIDE → IsOneOf h (IsWriterAmong h key_index Among) (from + k) b
    → IsHead h floor b (slice_index heads (key_index % length heads))

-- each transaction that has the old head, and is not past the row, has the new one
abbrev pub KeepsHead : History → ℕ → ℕ → List ℕ → ℕ → ℕ → Type 0
KeepsHead h from floor row old new = (k b : ℕ) → k < WIDE → IsOfLane h from k b → IsHead h floor b old → b ≤ slice_index row k → IsHead h floor b new

-- so it is at each index, by the rows as they were
abbrev pub KeepHeads : History → ℕ → ℕ → List (List ℕ) → List ℕ → List ℕ → Type 0
KeepHeads h from floor rows old new = (index : ℕ) → KeepsHead h from floor (row_of rows index) (slice_index old index) (slice_index new index)

-- c has the head of each of these keys
abbrev pub HasHeads : History → ℕ → ℕ → List ℕ → List ℕ → Type 0
HasHeads h floor c key_indices heads = (key_index : ℕ) → Contains key_indices key_index → IsHead h floor c (slice_index heads (key_index % length heads))

-- b, another writer of x than a, reaches c
abbrev pub IsOtherWriter : History → ℕ → ℕ → List ℕ → ℕ → Type 0
IsOtherWriter h a c x b = Contains (writers h x) b × (b ≢ a) × IsReached h b c

-- the clock of a holds each transaction of the block that has to be before a as c reads x from it
abbrev pub TellsNone : History → ℕ → List (List ℕ) → ℕ → ℕ → List ℕ → Type 0
TellsNone h from table a c x = (k b : ℕ) → k < WIDE → IsOneOf h (IsOtherWriter h a c x) (from + k) b → b ≤ slice_index (row_of table a) k

-- the reading of x by c is among these readings from a, or it tells nothing more
abbrev pub IsTold : History → ℕ → List (List ℕ) → ℕ → List (ℕ × ℕ) → ℕ → List ℕ → Type 0
IsTold h from table a readings c x = ((key_index : ℕ) × (key_at h key_index ≡ x) × Contains readings (c, key_index)) ⊎ TellsNone h from table a c x

-- each of these readings, a reader and the index of a key, is one from a
abbrev pub AreReadingsOf : History → ℕ → List (ℕ × ℕ) → Type 0
AreReadingsOf h a readings = (c key_index : ℕ) → Contains readings (c, key_index) → (key_index < length (keys h)) × IsReadsPair h a c (key_at h key_index)

-- readings from a, which include all that may tell more
pub record AreNewsOf (h : History) (from : ℕ) (table : List (List ℕ)) (a : ℕ) (readings : List (ℕ × ℕ)) : Type 0 where
  pub sound : AreReadingsOf h a readings
  pub enough : (c : ℕ) (x : List ℕ) → IsReadsPair h a c x → IsTold h from table a readings c x

-- for each transaction a row of such readings
pub record AreNews (h : History) (from : ℕ) (table : List (List ℕ)) (rows : List (List (ℕ × ℕ))) : Type 0 where
  pub long : length rows ≡ count h
  pub each : (a : ℕ) → AreNewsOf h from table a (row_of rows a)

-- the rows keep all their readings, and may have more
abbrev pub AreWider : List (List (ℕ × ℕ)) → List (List (ℕ × ℕ)) → Type 0
AreWider old new = (a : ℕ) (reading : ℕ × ℕ) → Contains (row_of old a) reading → Contains (row_of new a) reading

-- the rows have the same readings, in any order
abbrev pub AreSorted : List (List (ℕ × ℕ)) → List (List (ℕ × ℕ)) → Type 0
AreSorted old new = (a : ℕ) (reading : ℕ × ℕ) → Contains (row_of new a) reading ↔ Contains (row_of old a) reading
