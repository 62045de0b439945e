-- Values that count up by client: a value is `counter * clients + client`, and each client writes ever higher ones.
use Rattle.std.specs.Prelude.{ℕ, ◌+◌, ◌<◌, ◌≤◌, ◌≡◌, ◌⊎◌, ◌%◌, List, [], ◌++◌, length, slice_index, slice_index_or, filter_map, take, Option, None, Some, Contains}
use Rattle.tcc_txn.specs.declared.op.Op.{Op}
use Rattle.tcc_txn.specs.declared.op.Op.TheVariants.{Get, Put}
use Rattle.tcc_forget.specs.declared.counters.CounterFault.{CounterFault}
use Rattle.tcc_forget.specs.declared.counters.CounterFault.TheVariants.{CountsBack, NoMemory}

-- the value was written, or a higher one by its client: so it doesn't come any more
pub record IsPassed (clients : ℕ) (written : List ℕ) (v : ℕ) : Type 0 where
  pub higher : ℕ
  pub there : Contains written higher
  pub client : higher % clients ≡ v % clients
  pub upto : v ≤ higher

-- the highest value of each client, or 0 where it has written none
pub record AreHighest (written : List ℕ) (highest : List ℕ) : Type 0 where
  pub some : 0 < length highest
  pub attained : (c : ℕ) → c < length highest → (slice_index highest c ≡ 0)
      ⊎ (Contains written (slice_index highest c) × (slice_index highest c % length highest ≡ c))
  pub greatest : (v : ℕ) → Contains written v → v ≤ slice_index highest (v % length highest)

-- the value that an operation writes
abbrev pub written_by : Op → Option ℕ
written_by (Get key value) = None
written_by (Put key value) = Some value

-- the values that operations write, in order
abbrev pub values_written : List Op → List ℕ
values_written ops = filter_map written_by ops

-- the operation writes a value that was passed before it
abbrev pub WritesPassed : ℕ → List ℕ → Op → Type 0
WritesPassed clients written op = (v : ℕ) × (written_by op ≡ Some v) × IsPassed clients written v

-- the one at an index writes a value that an operation before it, or an earlier transaction, had passed
abbrev pub CountsBackAt : ℕ → List ℕ → List Op → ℕ → Type 0
CountsBackAt clients written ops i = WritesPassed clients (written ++ values_written (take i ops)) (slice_index_or ops i (Get [] 0))

-- none of the first ones does
abbrev pub CountUpBelow : ℕ → List ℕ → List Op → ℕ → Type 0
CountUpBelow clients written ops end = (i : ℕ) → i < end → i < length ops → CountsBackAt clients written ops i → ⊥

abbrev pub CountUp : ℕ → List ℕ → List Op → Type 0
CountUp clients written ops = CountUpBelow clients written ops (length ops)

-- the operation at a position, from 1, is the first that writes a passed value
pub record IsFirstBack (clients : ℕ) (written : List ℕ) (ops : List Op) (at : ℕ) : Type 0 where
  pub index : ℕ
  pub is : at ≡ index + 1
  pub within : index < length ops
  pub back : CountsBackAt clients written ops index
  pub first : CountUpBelow clients written ops index

-- why the values that operations write aren't taken
abbrev pub IsCounterFault : ℕ → List ℕ → List Op → CounterFault → Type 0
IsCounterFault clients written ops (CountsBack at) = IsFirstBack clients written ops at
IsCounterFault clients written ops NoMemory = Unit {0}
