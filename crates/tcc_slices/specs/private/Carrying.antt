-- What is asked of a map of numbers, transaction by transaction.
use Rattle.std.specs.Prelude.{ℕ, ◌≡◌, ◌==◌, ◌<◌, true, List, length, slice_index}
use Rattle.std.specs.List.{position_or_len}
use Rattle.tcc_reads.specs.History.{History, count, entry_at}
use Rattle.tcc_graph.specs.Relations.{IsReadsPair, IsSessionPair}
use Rattle.tcc_graph.specs.Keys.{IsWriter, has_name}

-- the number at an index, 0 past the end
abbrev pub carry : List ℕ → ℕ → ℕ
carry numbers n = slice_index numbers n

-- where a number stands among others; past the last where it is none of them
abbrev pub place : List ℕ → ℕ → ℕ
place numbers n = position_or_len (λ m. m == n) numbers

-- each is above those before it
abbrev pub IsRising : List ℕ → Type 0
IsRising numbers = (i j : ℕ) → i < j → j < length numbers → slice_index numbers i < slice_index numbers j

-- what is read from a, what a comes before, and what b writes
abbrev pub KeepsReads : List ℕ → History → History → ℕ → Type 0
KeepsReads numbers small large a = (c : ℕ) (x : List ℕ) → IsReadsPair small a c x → IsReadsPair large (carry numbers a) (carry numbers c) x

abbrev pub KeepsSessions : List ℕ → History → History → ℕ → Type 0
KeepsSessions numbers small large a = (b : ℕ) → IsSessionPair small a b → IsSessionPair large (carry numbers a) (carry numbers b)

abbrev pub KeepsWrites : List ℕ → History → History → ℕ → Type 0
KeepsWrites numbers small large b = (x : List ℕ) → has_name (entry_at small b).writes x ≡ true → IsWriter large (carry numbers b) x

abbrev pub Keeps : List ℕ → History → History → ℕ → Type 0
Keeps numbers small large a = KeepsReads numbers small large a × KeepsSessions numbers small large a × KeepsWrites numbers small large a

-- one number for each of the first history, from 0 on, each above those before it; and the second history isn't empty
abbrev pub Fits : List ℕ → History → History → Type 0
Fits numbers small large = (length numbers ≡ count small) × (slice_index numbers 0 ≡ 0) × (0 < count large) × IsRising numbers
