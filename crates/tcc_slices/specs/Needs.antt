-- What the links of a cycle need of the transactions that they name.
use Rattle.std.specs.Prelude.{ℕ, ◌≡◌, ◌+◌, ◌⊎◌, true, List, [], ◌∷◌, All, Contains, flat_map}
use Rattle.std.specs.FinMap.{entries}
use Rattle.tcc_txn.specs.Snapshots.{Sessions}
use Rattle.tcc_txn.specs.Transactions.{Transaction}
use Rattle.tcc_txn.specs.declared.op.Op.{Op}
use Rattle.tcc_txn.specs.declared.op.Op.TheVariants.{Get, Put}
use Rattle.tcc_graph.specs.Links.{unfolding_of}
use Rattle.tcc_graph.specs.Walks.{step_from, step_to}
use Rattle.tcc_graph.specs.declared.step.Step.{Step}
use Rattle.tcc_graph.specs.declared.step.Step.TheVariants as step
use Rattle.tcc_graph.specs.declared.link.Link.{Link}
use Rattle.tcc_graph.specs.declared.link.Link.TheVariants as link

-- one of the links unfolds to the step, among others
abbrev pub HasStep : List Link → Step → Type 0
HasStep links s = (l : Link) × Contains links l × Contains (unfolding_of l) s

-- a step begins or ends at the transaction of this number, or a link is derived from what it overwrites
abbrev pub IsMet : List Link → ℕ → Type 0
IsMet links n =
    ((s : Step) × HasStep links s × ((step_from s ≡ n) ⊎ (step_to s ≡ n)))
    ⊎ ((x : List ℕ) × (a : ℕ) × (c : ℕ) × (walk : List Step) × Contains links (link.Derived n a x c walk))

-- the key is read from it in one of the steps, or a link is derived from that it writes the key
abbrev pub IsWritten : List Link → ℕ → List ℕ → Type 0
IsWritten links n x =
    ((c : ℕ) × HasStep links (step.Reads n c x))
    ⊎ ((a : ℕ) × (c : ℕ) × (walk : List Step) × Contains links (link.Derived n a x c walk))

-- the links need an operation of the transaction of this number. That is its read of a key, of the value that the source shows, or
-- its write of a key, of the value that it shows itself. What others read at a key of a transaction is `shown`
abbrev pub IsNeeded : (ℕ → List ℕ → ℕ) → List Link → ℕ → Op → Type 0
IsNeeded shown links n (Get key value) = (a : ℕ) × HasStep links (step.Reads a n key) × (value ≡ shown a key)
IsNeeded shown links n (Put key value) = IsWritten links n key × (value ≡ shown n key)

-- none of the operations is there twice
abbrev pub AreOnce : List Op → Type 0
AreOnce [] = Unit {0}
AreOnce (op ∷ later) = (Contains later op → ⊥) × AreOnce later

-- the transaction of a number is committed, and the links need it and each of its operations, once
pub record IsNeededWhole (shown : ℕ → List ℕ → ℕ) (links : List Link) (n : ℕ) (t : Transaction) : Type 0 where
  pub committed : t.committed ≡ true
  pub met : IsMet links n
  pub operations : All (IsNeeded shown links n) t.ops
  pub once : AreOnce t.ops

-- the links need each of some transactions, which have the numbers from n on
abbrev pub AreNeededTxns : (ℕ → List ℕ → ℕ) → List Link → ℕ → List Transaction → Type 0
AreNeededTxns shown links n [] = Unit {0}
AreNeededTxns shown links n (t ∷ later) = IsNeededWhole shown links n t × AreNeededTxns shown links (n + 1) later

-- the links need each transaction of a snapshot
abbrev pub IsNothingSpare : (ℕ → List ℕ → ℕ) → List Link → Sessions → Type 0
IsNothingSpare shown links s = AreNeededTxns shown links 1 (flat_map (λ part. part.1) (entries s))
