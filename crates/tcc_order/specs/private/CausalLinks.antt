-- The links that are kept, by the greatest numbers of the sessions of a block.
use Rattle.std.specs.Prelude.{ℕ, ◌<◌, ◌≤◌, ◌+◌, ◌-◌, ◌≡◌, ◌≢◌, ◌⊎◌, ◌==◌, ◌&&◌, nat_lt, nat_le, not, if◌then◌else◌, max, List, [], ◌++◌, length, slice_index, All, Contains}
use Rattle.std.specs.List.Sorted.{IsNonDecreasing}
use Rattle.tcc_reads.specs.History.{History, count, owner}
use Rattle.tcc_graph.specs.Relations.{IsReadsPair, IsSessionPair}
use Rattle.tcc_graph.specs.Keys.{writers}
use Rattle.tcc_graph.specs.Tables.{row_of}
use Rattle.tcc_graph.specs.Walks.{IsReached}
use Rattle.tcc_graph.specs.Levels.{Judged, IsAllowedWalk}
use Rattle.tcc_graph.specs.declared.step.Step.{Step}
use Rattle.tcc_clocks.specs.Clocks.{IsOneOf}
use Rattle.tcc_clocks.specs.declared.latest.TheConstants.{WIDE}

-- the greatest number in the set past a known number, if there are any
pub record IsLatestPast (h : History) (Is : ℕ → Type 0) (session : ℕ) (known : ℕ) (latest : ℕ) : Type 0 where
  pub attained : (latest ≡ 0) ⊎ IsOneOf h Is session latest
  pub greatest : (b : ℕ) → IsOneOf h Is session b → b ≤ max latest known

pub record AreLatestPast (h : History) (Is : ℕ → Type 0) (from : ℕ) (known : List ℕ) (row : List ℕ) : Type 0 where
  pub wide : length row ≡ WIDE
  pub each : (k : ℕ) → k < WIDE → IsLatestPast h Is (from + k) (slice_index known k) (slice_index row k)

-- b, another writer of a key that is read from a, reaches the reader
abbrev pub IsOverwritten : History → (ℕ → List ℕ → Type 0) → ℕ → ℕ → Type 0
IsOverwritten h IsReading a b = (c : ℕ) × (x : List ℕ) × IsReading c x × Contains (writers h x) b × (b ≢ a) × IsReached h b c

-- b is one of these writers, is not a, is in session k of the block, and is reached by the clock
abbrev pub IsLiftable : List ℕ → ℕ → List ℕ → List ℕ → ℕ → ℕ → ℕ → Type 0
IsLiftable owners from clock writers a k b = (0 < b) × (b ≢ a) × Contains writers b × (slice_index owners b ≡ from + k) × (b ≤ slice_index clock k)

-- the number of session k, raised to the greatest of these
pub record IsLifted (owners : List ℕ) (from : ℕ) (clock : List ℕ) (writers : List ℕ) (a : ℕ) (k : ℕ) (old : ℕ) (new : ℕ) : Type 0 where
  pub attained : (new ≡ old) ⊎ IsLiftable owners from clock writers a k new
  pub kept : old ≤ new
  pub greatest : (b : ℕ) → IsLiftable owners from clock writers a k b → b ≤ new

-- the number of session k, raised to that of the writer b if b is not a and the clock reaches it
abbrev pub lifted_by : List ℕ → ℕ → List ℕ → ℕ → ℕ → ℕ → ℕ → ℕ
lifted_by owners from clock a b k latest =
    if (nat_lt 0 b && not (b == a)) && ((slice_index owners b == from + k) && nat_le b (slice_index clock k)) then max b latest else latest

-- a link from d is kept into a, or into what reaches a
abbrev pub IsKeptUpTo : History → List (List ℕ) → ℕ → ℕ → Type 0
IsKeptUpTo h kept a d = (e : ℕ) × Contains (row_of kept e) d × ((e ≡ a) ⊎ IsReached h e a)

-- b is before a by what is kept: from b, or from a later one of its session, such a link is kept, or it reaches a
abbrev pub IsCovered : History → List (List ℕ) → ℕ → ℕ → Type 0
IsCovered h kept a b = (d : ℕ) × ((b ≡ d) ⊎ IsSessionPair h b d) × (IsKeptUpTo h kept a d ⊎ IsReached h d a)

-- a link from d is kept into an earlier transaction than a of the session at this index
abbrev pub IsKeptEarlier : History → List (List ℕ) → ℕ → ℕ → ℕ → Type 0
IsKeptEarlier h kept a session d = (e : ℕ) × (0 < e) × (e < a) × (owner h e ≡ session) × Contains (row_of kept e) d

-- for each session of the block 0, or a transaction from which such a link is kept
abbrev pub AreRuns : History → List (List ℕ) → ℕ → ℕ → ℕ → List ℕ → Type 0
AreRuns h kept from a session run =
    (k : ℕ) → k < WIDE → (slice_index run k ≡ 0) ⊎ IsOneOf h (IsKeptEarlier h kept a session) (from + k) (slice_index run k)

-- For the first n sessions: what is newly kept is above the clock's number. Each number above this and above the run's is
-- kept. The run goes on with what is kept.
pub record KeepsNews (need : List ℕ) (clock : List ℕ) (before : List ℕ) (after : List ℕ) (old : List ℕ) (new : List ℕ) (n : ℕ) : Type 0 where
  pub same : length after ≡ length before
  pub later : (k : ℕ) → n ≤ k → slice_index after k ≡ slice_index before k
  pub sound : (b : ℕ) → Contains new b → Contains old b ⊎ ((k : ℕ) × (k < n) × (slice_index need k ≡ b) × (slice_index clock k < b))
  pub wider : (b : ℕ) → Contains old b → Contains new b
  pub enough : (k : ℕ) → k < n → (slice_index need k ≤ max (slice_index clock k) (slice_index before k)) ⊎ Contains new (slice_index need k)
  pub run : (k : ℕ) → k < n
      → (slice_index after k ≡ slice_index before k) ⊎ ((slice_index after k ≡ slice_index need k) × Contains new (slice_index need k))

-- a is the first of its session and the run is empty, or the run goes on from the transaction before a
abbrev pub IsBegun : List ℕ → ℕ → List ℕ → List ℕ → Type 0
IsBegun owners a old new =
    ((k : ℕ) → k < length new → slice_index new k ≡ 0) ⊎ ((1 < a) × (slice_index owners (a - 1) ≡ slice_index owners a) × (new ≡ old))

-- each link that is kept is a derived pair
abbrev pub AreDerived : (ℕ → ℕ → Type 0) → List (List ℕ) → Type 0
AreDerived Derives kept = (a b : ℕ) → Contains (row_of kept a) b → Derives a b

-- each derived pair of the given kind is covered
abbrev pub AreEnough : History → (ℕ → ℕ → Type 0) → (ℕ → ℕ → Type 0) → List (List ℕ) → Type 0
AreEnough h Derives IsMeant kept = (a b : ℕ) → Derives a b → 0 < b → IsMeant a b → IsCovered h kept a b

-- the session of b is one from `first` to below `end`
abbrev pub IsFrom : History → ℕ → ℕ → ℕ → ℕ → Type 0
IsFrom h first end a b = (first ≤ owner h b) × (owner h b < end)

-- what was kept is still kept
abbrev pub AreStillKept : List (List ℕ) → List (List ℕ) → Type 0
AreStillKept old new = (a b : ℕ) → Contains (row_of old a) b → Contains (row_of new a) b

-- each row has its own links, followed by those of the other table
abbrev pub AreJoined : List (List ℕ) → List (List ℕ) → List (List ℕ) → Type 0
AreJoined old more new = (a : ℕ) → row_of new a ≡ row_of old a ++ row_of more a

-- the derived pairs at `Causal`
abbrev pub Overwrites : History → ℕ → ℕ → Type 0
Overwrites h a b = (a < count h) × (b < count h) × IsOverwritten h (IsReadsPair h a) a b

-- a walk that the level allows leads from b to c
abbrev pub IsAllowedFrom : Judged → ℕ → ℕ → Type 0
IsAllowedFrom j b c = (walk : List Step) × IsAllowedWalk j b c walk

-- the derived pairs at a level
abbrev pub Derives : Judged → ℕ → ℕ → Type 0
Derives j a b = (a < count j.history) × (b < count j.history)
    × ((c : ℕ) × (x : List ℕ) × IsReadsPair j.history a c x × Contains (writers j.history x) b × (b ≢ a) × IsAllowedFrom j b c)

-- every row is empty
abbrev pub HasNone : {T : Type 0} → List (List T) → Type 0
HasNone rows = All (λ row. row ≡ []) rows

-- links that are kept at a level: each is a derived pair, and all derived pairs are covered
pub record AreLinks (j : Judged) (kept : List (List ℕ)) : Type 0 where
  pub long : length kept ≡ count j.history
  pub derived : AreDerived (Derives j) kept
  pub enough : AreEnough j.history (Derives j) (λ a b. Unit {0}) kept

-- links that are kept from the sessions from `first` to below `end`: each is a derived pair, and all from these sessions are
-- covered
pub record AreLinksFrom (h : History) (first : ℕ) (end : ℕ) (kept : List (List ℕ)) : Type 0 where
  pub long : length kept ≡ count h
  pub derived : AreDerived (Overwrites h) kept
  pub enough : AreEnough h (Overwrites h) (IsFrom h first end) kept

-- the sessions' indices don't descend
abbrev pub AreOrdered : List ℕ → Type 0
AreOrdered owners = (m n : ℕ) → 0 < m → m < n → n < length owners → slice_index owners m ≤ slice_index owners n

-- the clock's number of a session is 0, or a transaction of the session
abbrev pub IsClock : List ℕ → ℕ → List ℕ → Type 0
IsClock owners from clock =
    (k : ℕ) → k < length clock
    → (slice_index clock k ≡ 0) ⊎ ((slice_index clock k < length owners) × (slice_index owners (slice_index clock k) ≡ from + k))

-- numbers of the sessions of a block that a clock and writers may lift: each writer is a transaction, and the writers ascend
pub record CanLift (owners : List ℕ) (from : ℕ) (clock : List ℕ) (writers : List ℕ) (need : List ℕ) : Type 0 where
  pub same : length need ≡ length clock
  pub ordered : AreOrdered owners
  pub owned : IsClock owners from clock
  pub rising : IsNonDecreasing writers
  pub inside : All (λ b. b < length owners) writers

-- the greatest of these that is at most `top`, or 0 if there is none
pub record IsLastUpTo (numbers : List ℕ) (top : ℕ) (last : ℕ) : Type 0 where
  pub attained : (last ≡ 0) ⊎ (Contains numbers last × (last ≤ top))
  pub greatest : (b : ℕ) → Contains numbers b → b ≤ top → b ≤ last

-- the greatest of these other than a that is at most `top`, or 0 if there is none
pub record IsLastBut (numbers : List ℕ) (top : ℕ) (a : ℕ) (last : ℕ) : Type 0 where
  pub attained : (last ≡ 0) ⊎ (Contains numbers last × (last ≢ a) × (last ≤ top))
  pub greatest : (b : ℕ) → Contains numbers b → b ≢ a → b ≤ top → b ≤ last
