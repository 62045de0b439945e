-- The keys that operations write.
use Rattle.std.specs.Prelude.{ℕ, ◌<◌, ◌≡◌, ◌≢◌, List, [], length, slice_index_or, Contains}
use Rattle.tcc_txn.specs.Symbols.{with_symbol}
use Rattle.tcc_txn.specs.declared.op.Op.{Op}
use Rattle.tcc_txn.specs.declared.op.Op.TheVariants.{Get, Put}

-- the key that an operation writes is among them
abbrev pub AddsKey : Op → List (List ℕ) → List (List ℕ) → Type 0
AddsKey (Get key value) old new = new ≡ old
AddsKey (Put key value) old new = new ≡ with_symbol key old

-- these are the keys that operations write, each once
pub record AreKeys (ops : List Op) (keys : List (List ℕ)) : Type 0 where
  pub once : (i : ℕ) (k : ℕ) → i < k → k < length keys → slice_index_or keys i [] ≢ slice_index_or keys k []
  pub all : (x : List ℕ) (v : ℕ) → Contains ops (Put x v) → Contains keys x
  pub only : (x : List ℕ) → Contains keys x → (v : ℕ) × Contains ops (Put x v)
