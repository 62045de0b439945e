-- Snapshots, one of which continues the other.
use Rattle.std.specs.Prelude.{ℕ, ◌≡◌, List, [], ◌++◌, unwrap_or}
use Rattle.std.specs.Cmp.Lexicographic.{slice_cmp}
use Rattle.std.specs.FinMap.{get}
use Rattle.std.specs.Ordering.{nat_cmp}
use Rattle.std.specs.declared.cmp.Ordering.TheVariants.{Less}
use Rattle.tcc_txn.specs.Snapshots.{Sessions}
use Rattle.tcc_txn.specs.Transactions.{Transaction}

-- the finished transactions of a session; none if the snapshot has no session of that name
abbrev pub list_of : Sessions → List ℕ → List Transaction
list_of s name = unwrap_or (get s name) []

-- a list begins with another
abbrev pub IsPrefix : {X : Type 0} → List X → List X → Type 0
IsPrefix {X} front all = (rest : List X) × (all ≡ front ++ rest)

-- each list of the first is a prefix of the list of that session in the second
abbrev pub IsNested : Sessions → Sessions → Type 0
IsNested small large = (name : List ℕ) → IsPrefix (list_of small name) (list_of large name)

-- the least session whose list in the first is not a prefix of its list in the second
pub record IsFirstCut (small : Sessions) (large : Sessions) (name : List ℕ) : Type 0 where
  pub cut : IsPrefix (list_of small name) (list_of large name) → ⊥
  pub first : (other : List ℕ) → slice_cmp nat_cmp other name ≡ Less → IsPrefix (list_of small other) (list_of large other)
