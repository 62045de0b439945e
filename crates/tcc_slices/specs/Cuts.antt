-- Snapshots of which transactions and operations were left out.
use Rattle.std.specs.Prelude.{ℕ, ◌≡◌, ◌+◌, ◌⊎◌, List, [], ◌∷◌, Contains, Some, slice_get}
use Rattle.std.specs.FinMap.{entries}
use Rattle.tcc_txn.specs.Snapshots.{Sessions}
use Rattle.tcc_txn.specs.Transactions.{Transaction}
use Rattle.tcc_txn.specs.declared.op.Op.{Op}
use Rattle.tcc_reads.specs.History.{History}
use Rattle.tcc_reads.specs.Sites.{Stand}
use Rattle.tcc_graph.specs.Numbers.{at}

-- what is left of a list where some items are left out, and each that stays goes to one that is part of it
abbrev pub IsLeftOf : {X : Type 0} → (X → X → Type 0) → List X → List X → Type 0
IsLeftOf IsPart [] all = Unit {0}
IsLeftOf IsPart (x ∷ xs) [] = ⊥
IsLeftOf IsPart (x ∷ xs) (y ∷ ys) = (IsPart x y × IsLeftOf IsPart xs ys) ⊎ IsLeftOf IsPart (x ∷ xs) ys

-- some of the operations, in their order
abbrev pub AreSomeOps : List Op → List Op → Type 0
AreSomeOps ops all = IsLeftOf (λ one other. one ≡ other) ops all

-- a transaction with some of another one's operations, which ended as that did
abbrev pub IsSomeOf : Transaction → Transaction → Type 0
IsSomeOf part whole = (part.committed ≡ whole.committed) × AreSomeOps part.ops whole.ops

-- a transaction with some of the operations of the one that a history has by this number, in the session of the same name
pub record IsLeftAt (whole : Sessions) (h : History) (n : ℕ) (t : Stand) : Type 0 where
  pub session : ℕ
  pub index : ℕ
  pub number : at h n ≡ Some (session, index + 1)
  pub all : List Transaction
  pub named : slice_get (entries whole) session ≡ Some (t.name, all)
  pub origin : Transaction
  pub there : slice_get all index ≡ Some origin
  pub some_of : IsSomeOf t.txn origin

-- some of the transactions, in their order, each with some of its operations
abbrev pub AreSomeOf : List Transaction → List Transaction → Type 0
AreSomeOf transactions all = IsLeftOf IsSomeOf transactions all

-- a session of the name has transactions of which these are left
abbrev pub IsPartlyIn : List (List ℕ × List Transaction) → List ℕ → List Transaction → Type 0
IsPartlyIn parts session transactions =
    (all : List Transaction) × (let part : List ℕ × List Transaction = (session, all) in Contains parts part) × AreSomeOf transactions all

-- of each session of the first snapshot the transactions are what is left of that session's in the second
abbrev pub IsCutOf : Sessions → Sessions → Type 0
IsCutOf small large = (session : List ℕ) (transactions : List Transaction) → (let part : List ℕ × List Transaction = (session, transactions) in Contains (entries small) part)
    → IsPartlyIn (entries large) session transactions
