-- Vector clocks of a block of sessions. For each session they have the greatest number that reaches a transaction, and the
-- least that it reaches.
use Rattle.std.specs.Prelude.{ℕ, ◌<◌, ◌≤◌, ◌+◌, ◌≡◌, ◌≢◌, ◌⊎◌, ◌↔◌, List, length, slice_index}
use Rattle.tcc_reads.specs.History.{History, count, owner}
use Rattle.tcc_graph.specs.Relations.{IsCausalPair}
use Rattle.tcc_graph.specs.Orders.{Before}
use Rattle.tcc_graph.specs.Tables.{row_of}
use Rattle.tcc_graph.specs.Walks.{IsReached}
use Rattle.tcc_clocks.specs.declared.latest.TheConstants.{WIDE}
use Rattle.tcc_clocks.specs.declared.side.Side.{Side}
use Rattle.tcc_clocks.specs.declared.side.Side.TheVariants.{Past, Future}

-- the index of each transaction's session, 0 for `init`
pub record AreOwners (h : History) (owners : List ℕ) : Type 0 where
  pub long : length owners ≡ count h
  pub init : slice_index owners 0 ≡ 0
  pub each : (n : ℕ) → 0 < n → n < count h → slice_index owners n ≡ owner h n

-- b is in the set `Is`, and a committed transaction of the session
pub record IsOneOf (h : History) (Is : ℕ → Type 0) (session : ℕ) (b : ℕ) : Type 0 where
  pub committed : 0 < b
  pub below : b < count h
  pub owned : owner h b ≡ session
  pub meant : Is b

-- the greatest number in the set of a transaction of the session, or 0 if there is none
pub record IsLatestOf (h : History) (Is : ℕ → Type 0) (session : ℕ) (latest : ℕ) : Type 0 where
  pub attained : (latest ≡ 0) ⊎ IsOneOf h Is session latest
  pub greatest : (b : ℕ) → IsOneOf h Is session b → b ≤ latest

-- of the session the transactions from `first` on are in the set, and no others
abbrev pub IsFirstOf : History → (ℕ → Type 0) → ℕ → ℕ → Type 0
IsFirstOf h Is session first = (b : ℕ) → 0 < b → b < count h → owner h b ≡ session → Is b ↔ (first ≤ b)

-- what a row says about a session: the last of its transactions in the set, or the first
abbrev pub IsEntry : Side → History → (ℕ → Type 0) → ℕ → ℕ → Type 0
IsEntry Past h Is session entry = IsLatestOf h Is session entry
IsEntry Future h Is session entry = IsFirstOf h Is session entry

-- a row says it about each session of the block that begins at `from`
pub record AreEntries (side : Side) (h : History) (Is : ℕ → Type 0) (from : ℕ) (row : List ℕ) : Type 0 where
  pub wide : length row ≡ WIDE
  pub each : (k : ℕ) → k < WIDE → IsEntry side h Is (from + k) (slice_index row k)

-- a row says about each session which of its transactions in the set is the last
abbrev pub AreLatestOf : History → (ℕ → Type 0) → ℕ → List ℕ → Type 0
AreLatestOf h Is from row = AreEntries Past h Is from row

-- what reaches c
abbrev pub IsBefore : History → ℕ → ℕ → Type 0
IsBefore h c b = IsReached h b c

-- what a reaches
abbrev pub IsAfter : History → ℕ → ℕ → Type 0
IsAfter h a b = IsReached h a b

-- b is on a side of c
abbrev pub IsOn : Side → History → ℕ → ℕ → Type 0
IsOn Past h c b = IsBefore h c b
IsOn Future h c b = IsAfter h c b

-- one of these, or on a side of one of them
abbrev pub IsWith : Side → History → (ℕ → Type 0) → ℕ → Type 0
IsWith side h Among b = (p : ℕ) × Among p × ((b ≡ p) ⊎ IsOn side h p b)

-- the rows of these transactions are as they should be
pub record HasRows (h : History) (IsRow : ℕ → List ℕ → Type 0) (IsDone : ℕ → Type 0) (table : List (List ℕ)) : Type 0 where
  pub long : length table ≡ count h
  pub each : (c : ℕ) → c < count h → IsDone c → IsRow c (row_of table c)

-- the row of each transaction says what reaches it
abbrev pub AreClocks : History → ℕ → List (List ℕ) → Type 0
AreClocks h from table = HasRows h (λ c row. AreLatestOf h (IsBefore h c) from row) (λ c. c < count h) table

-- causal pairs lead onward in the order
abbrev pub LeadsOnward : History → List ℕ → Type 0
LeadsOnward h order = (b c : ℕ) → IsCausalPair h b c → Before order b c

-- p is `init`, or is in no session of the block
abbrev pub IsOutside : List ℕ → ℕ → ℕ → Type 0
IsOutside owners from p = (0 < p) → (k : ℕ) → k < WIDE → slice_index owners p ≢ from + k

-- p has the row of the other, and is outside the block
abbrev pub IsLike : List (List ℕ) → List ℕ → ℕ → ℕ → ℕ → Type 0
IsLike table owners from other p = (row_of table p ≡ row_of table other) × IsOutside owners from p
