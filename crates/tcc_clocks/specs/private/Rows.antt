-- How the row of a transaction follows from the rows of those right beside it.
use Rattle.std.specs.Prelude.{ℕ, ◌+◌, ◌==◌, ◌&&◌, nat_lt, if◌then◌else◌, max, min, List, slice_index}
use Rattle.tcc_reads.specs.History.{History}
use Rattle.tcc_clocks.specs.Clocks.{AreEntries, HasRows, IsOn, IsWith}
use Rattle.tcc_clocks.specs.declared.side.Side.{Side}
use Rattle.tcc_clocks.specs.declared.side.Side.TheVariants.{Past, Future}

-- one of these, or what reaches one of them
abbrev pub IsUpTo : History → (ℕ → Type 0) → ℕ → Type 0
IsUpTo h Among b = IsWith Past h Among b

-- two entries together: the last of both, or the first
abbrev pub joined : Side → ℕ → ℕ → ℕ
joined Past one other = max one other
joined Future one other = min one other

-- the entry of a session for the empty set
abbrev pub empty_entry : Side → ℕ → ℕ
empty_entry Past count = 0
empty_entry Future count = count

-- the entry of session k of the block, together with p if p is in that session
abbrev pub with_own : Side → List ℕ → ℕ → ℕ → ℕ → ℕ → ℕ
with_own side owners from p k entry = if nat_lt 0 p && (slice_index owners p == from + k) then joined side p entry else entry

-- the rows of these transactions say what is on a side of each
abbrev pub HasEntries : Side → History → ℕ → (ℕ → Type 0) → List (List ℕ) → Type 0
HasEntries side h from IsDone table = HasRows h (λ c row. AreEntries side h (IsOn side h c) from row) IsDone table
