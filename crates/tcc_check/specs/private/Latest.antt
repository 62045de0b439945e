-- The last writers that a clock reaches.
use Rattle.std.specs.Prelude.{ℕ, ◌<◌, ◌≤◌, ◌≡◌, ◌==◌, ◌&&◌, ◌||◌, nat_lt, nat_le, Bool, true, false, IsTrue}
use Rattle.std.specs.Prelude.{length, List, Option, Some, None, All, Contains, slice_index}
use Rattle.std.specs.List.Sorted.{IsNonDecreasing, IsPartitionPoint}
use Rattle.tcc_txn.specs.declared.limits.TheConstants.{MAX_SESSIONS}
use Rattle.tcc_reads.specs.History.{History, IsBySession, count, owner, place}
use Rattle.tcc_graph.specs.Relations.{IsSessionPair, IsReadsPair}
use Rattle.tcc_graph.specs.Links.{MayContradict}
use Rattle.tcc_graph.specs.Numbers.{at}
use Rattle.tcc_graph.specs.declared.level.Level.{Level}
use Rattle.tcc_cert.specs.OrderRules.{HasClocks, MayReach}

-- of an earlier session, or of this one and no later than the number, or `init`
abbrev pub within_at : ℕ → ℕ → Option (ℕ × ℕ) → Bool
within_at session number None = true
within_at session number (Some stand) = nat_lt stand.0 session || ((stand.0 == session) && nat_le stand.1 number)

abbrev pub is_within : History → ℕ → ℕ → ℕ → Bool
is_within h session number n = within_at session number (at h n)

-- in session order each comes before the next
abbrev pub AreSessionsKept : History → List ℕ → Type 0
AreSessionsKept h positions = (b : ℕ) (c : ℕ) → IsSessionPair h b c → slice_index positions b < slice_index positions c

-- the first n of these are within, and no others
pub record IsCountWithin (h : History) (numbers : List ℕ) (session : ℕ) (number : ℕ) (n : ℕ) : Type 0 where
  pub upto : n ≤ length numbers
  pub point : IsPartitionPoint (λ b. is_within h session number b ≡ true) (λ b. is_within h session number b ≡ false) numbers n

-- the last of these that is within, none where none is
abbrev pub IsLastWithin : History → List ℕ → ℕ → ℕ → Option ℕ → Type 0
IsLastWithin h numbers session number None = (b : ℕ) → Contains numbers b → IsTrue (is_within h session number b) → ⊥
IsLastWithin h numbers session number (Some last) =
    Contains numbers last × IsTrue (is_within h session number last) × ((b : ℕ) → Contains numbers b → IsTrue (is_within h session number b) → b ≤ last)

-- none of these that is of the session, and no later than the place, comes after the source
abbrev pub StandBefore : History → List ℕ → List ℕ → ℕ → ℕ → ℕ → Type 0
StandBefore h positions writers session number source =
    (b : ℕ) → Contains writers b → 0 < b → owner h b ≡ session → place h b ≤ number → slice_index positions b ≤ slice_index positions source

-- none of these that the clock reaches does
abbrev pub StandAllBefore : History → List ℕ → List ℕ → List ℕ → ℕ → Type 0
StandAllBefore h positions clock writers source =
    (session : ℕ) → session < length clock → StandBefore h positions writers session (slice_index clock session) source

-- c's read from a is kept: no other writer of the key that may reach c comes after a
abbrev pub IsReadKept : History → Level → List ℕ → List (List ℕ) → List ℕ → ℕ → ℕ → Type 0
IsReadKept h level positions clocks x a c =
    (b : ℕ) → MayContradict h b a x c → MayReach h level clocks b c → slice_index positions b < slice_index positions a

-- the same for each of its reads
abbrev pub AreReadsKept : History → Level → List ℕ → List (List ℕ) → ℕ → Type 0
AreReadsKept h level positions clocks c = (x : List ℕ) (a : ℕ) → IsReadsPair h a c x → IsReadKept h level positions clocks x a c

-- each transaction is of one of the sessions
abbrev pub AreOwned : History → Type 0
AreOwned h = (n : ℕ) → 0 < n → n < count h → owner h n < length h.sessions

-- no two are at one position
abbrev pub AreApart : List ℕ → Type 0
AreApart positions = (a : ℕ) (b : ℕ) → a < length positions → b < length positions → slice_index positions a ≡ slice_index positions b → a ≡ b

-- these rise, and all are transactions
pub record AreRising (h : History) (numbers : List ℕ) : Type 0 where
  pub rising : IsNonDecreasing numbers
  pub below : All (λ b. b < count h) numbers

-- each transaction has a position, and in session order each comes before the next
pub record KeepsSessions (h : History) (positions : List ℕ) : Type 0 where
  pub numbered : IsBySession h.entries
  pub long : length positions ≡ count h
  pub kept : AreSessionsKept h positions

-- what is known of positions and clocks that keep the rule on pairs
pub record KeepsPairsBy (h : History) (level : Level) (positions : List ℕ) (clocks : List (List ℕ)) : Type 0 where
  pub sessions : KeepsSessions h positions
  pub apart : AreApart positions
  pub few : length h.sessions ≤ MAX_SESSIONS
  pub sized : HasClocks level (count h) (length h.sessions) clocks
