-- Transactions that come after another one and have to come before it by a single pair.
use Rattle.std.specs.Prelude.{ℕ, ◌<◌, ◌≤◌, ◌↔◌, ◌&&◌, ◌||◌, nat_lt, nat_le, Bool, List, Contains, slice_index}
use Rattle.tcc_reads.specs.History.{History}
use Rattle.tcc_graph.specs.Keys.{writers}
use Rattle.tcc_graph.specs.Levels.{atomically}
use Rattle.tcc_graph.specs.Relations.{IsCausalPair, IsReadsPair, IsSessionPair}
use Rattle.tcc_judge.specs.Orders.{BreaksAxiom}
use Rattle.tcc_judge.specs.private.Readings.{IsByReading}

-- b, one of these writers, comes after a, and a pair leads from it to c
pub record IsSingle (h : History) (positions : List ℕ) (writers : List ℕ) (a : ℕ) (c : ℕ) (b : ℕ) : Type 0 where
  pub writer : Contains writers b
  pub behind : slice_index positions a < slice_index positions b
  pub pair : IsCausalPair h b c

-- such a writer of a key that comes after a, by a reader of the key
abbrev pub IsSingleBy : History → List ℕ → ℕ → List ℕ → ℕ → ℕ → Type 0
IsSingleBy h positions a x c b = IsSingle h positions (writers h x) a c b

-- such a writer by one of the readings of a
abbrev pub IsSingleOf : History → List ℕ → ℕ → ℕ → Type 0
IsSingleOf h positions a b = IsByReading h a (IsSingleBy h positions a) b

-- the axiom of single pairs is broken at one of the first transactions
abbrev pub IsBrokenBelow : History → List ℕ → ℕ → ℕ × ℕ → Type 0
IsBrokenBelow h order end at = (at.1 < end) × BreaksAxiom (atomically h) order at

-- the session of c begins there: the transactions before c in it, except `init`, are the numbers from there to before c
abbrev pub IsBegin : History → ℕ → ℕ → Type 0
IsBegin h c begin = (b : ℕ) → ((0 < b) × IsSessionPair h b c) ↔ ((begin ≤ b) × (b < c))

-- the positions of the numbers from one to before another rise
abbrev pub DoRise : List ℕ → ℕ → ℕ → Type 0
DoRise positions begin end = (u v : ℕ) → begin ≤ u → u < v → v < end → slice_index positions u < slice_index positions v

-- b, one of these writers, has a number from one to before another, and comes after a position
pub record IsInSession (positions : List ℕ) (writers : List ℕ) (begin : ℕ) (end : ℕ) (position : ℕ) (b : ℕ) : Type 0 where
  pub writer : Contains writers b
  pub from : begin ≤ b
  pub before : b < end
  pub behind : position < slice_index positions b

-- b, one of these writers, comes after a position, and c reads from it
pub record IsSource (h : History) (positions : List ℕ) (writers : List ℕ) (position : ℕ) (c : ℕ) (b : ℕ) : Type 0 where
  pub writer : Contains writers b
  pub behind : position < slice_index positions b
  pub read : (x : List ℕ) × IsReadsPair h b c x

-- a number is less than the first of some, or less than the last of them and no later than a position
abbrev pub is_passed : List ℕ → ℕ → ℕ → ℕ → ℕ → Bool
is_passed positions begin end position b = nat_lt b begin || (nat_lt b end && nat_le (slice_index positions b) position)
