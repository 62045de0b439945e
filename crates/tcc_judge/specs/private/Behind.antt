-- Transactions that come after another one and have to come before it: those of a block of sessions, from some place of the order on.
use Rattle.std.specs.Prelude.{ℕ, ◌<◌, ◌≤◌, ◌≡◌, ◌+◌, ◌==◌, ◌&&◌, ◌||◌, nat_lt, Bool, List, Option, None, Some, if◌then◌else◌, length, slice_index}
use Rattle.tcc_reads.specs.History.{History, owner}
use Rattle.tcc_graph.specs.Levels.{causally}
use Rattle.tcc_graph.specs.Tables.{row_of}
use Rattle.tcc_graph.specs.Walks.{IsReached}
use Rattle.tcc_clocks.specs.declared.latest.TheConstants.{WIDE}
use Rattle.tcc_judge.specs.declared.least.TheConstants.{NONE}
use Rattle.tcc_judge.specs.Orders.{BreaksAxiom}
use Rattle.tcc_judge.specs.private.NextWriters.{IsNextWriter}
use Rattle.tcc_judge.specs.private.Readings.{IsByReading}

-- n rows, each with a number for each session of a block
pub record AreWide (n : ℕ) (table : List (List ℕ)) : Type 0 where
  pub long : length table ≡ n
  pub wide : (k : ℕ) → k < n → length (row_of table k) ≡ WIDE

-- the number of one of the first sessions that the clock has reached
pub record IsWithin (next : List ℕ) (clock : List ℕ) (end : ℕ) (number : ℕ) : Type 0 where
  pub session : ℕ
  pub first : session < end
  pub here : slice_index next session ≡ number
  pub passed : number ≤ slice_index clock session

-- b, of a session of the block, writes the key, is at the place or after it, and reaches c
pub record IsBehindBy (h : History) (order : List ℕ) (from : ℕ) (place : ℕ) (x : List ℕ) (c : ℕ) (b : ℕ) : Type 0 where
  pub session : ℕ
  pub narrow : session < WIDE
  pub next : IsNextWriter h order x (from + session) place b
  pub reached : IsReached h b c

-- b comes after a and has to come before it, by one of the readings of a
abbrev pub IsBehindOf : History → List ℕ → ℕ → ℕ → ℕ → ℕ → Type 0
IsBehindOf h order from place a b = IsByReading h a (IsBehindBy h order from place) b

-- the axiom is broken by a transaction of the block
pub record IsBrokenIn (h : History) (order : List ℕ) (from : ℕ) (at : ℕ × ℕ) : Type 0 where
  pub committed : 0 < at.0
  pub session : ℕ
  pub narrow : session < WIDE
  pub owned : owner h at.0 ≡ from + session
  pub broken : BreaksAxiom (causally h) order at

-- the axiom is broken by a transaction of the block, and the other one is at the place or after it
pub record IsBrokenFrom (h : History) (order : List ℕ) (from : ℕ) (place : ℕ) (at : ℕ × ℕ) : Type 0 where
  pub broken : IsBrokenIn h order from at
  pub index : ℕ
  pub behind : place ≤ index
  pub inside : index < length order
  pub here : slice_index order index ≡ at.1

-- the pair is before the other one
abbrev pub is_earlier : ℕ × ℕ → ℕ × ℕ → Bool
is_earlier p q = nat_lt p.0 q.0 || ((p.0 == q.0) && nat_lt p.1 q.1)

-- the first of what was found and another pair
abbrev pub earlier_of : Option (ℕ × ℕ) → ℕ × ℕ → ℕ × ℕ
earlier_of None at = at
earlier_of (Some found) at = if is_earlier found at then found else at

-- the first of what was found and the pair of b and a, if b is a transaction
abbrev pub first_with : Option (ℕ × ℕ) → ℕ → ℕ → Option (ℕ × ℕ)
first_with found b a = if b == NONE then found else Some (earlier_of found (b, a))
