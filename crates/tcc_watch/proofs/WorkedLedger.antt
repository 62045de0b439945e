-- Small transactions, that the definitions of a ledger have to agree with.
use Rattle.std.proofs.Common.{ℕ, ◌≡◌, inl, inr, List, [], ◌∷◌, refl, arith}
use Rattle.tcc_txn.specs.declared.op.Op.{Op}
use Rattle.tcc_txn.specs.declared.op.Op.TheVariants.{Get, Put}
use Rattle.tcc_reads.specs.History.{History}
use Rattle.tcc_graph.proofs.Worked.{x, y}
use Rattle.tcc_watch.specs.Ledger.{IsFrom, KeepsOwn, Lists, ReadsExternally, WritesOnce}

-- it writes x, reads that, and reads y from another transaction
abbrev ops : List Op
ops = Put x 1 ∷ Get x 1 ∷ Get y 2 ∷ []

external : ReadsExternally ops y 2
external = (2, (omega arith, refl), refl)

-- a read of x before the write would be one from another transaction
before : ReadsExternally (Get x 1 ∷ ops) x 1
before = (0, (omega arith, refl), refl)

-- it doesn't read what it wrote last
broken : KeepsOwn (Put x 1 ∷ Put x 2 ∷ Get x 1 ∷ []) → ⊥
broken keeps = let same : 2 ≡ 1 = keeps 2 x 1 2 (omega arith, refl) refl in absurd (omega (arith, same))

-- one value is written twice
twice : WritesOnce (Put x 1 ∷ Get x 1 ∷ Put x 1 ∷ []) → ⊥
twice once = once 0 2 x 1 (omega arith) (omega arith) refl refl

-- the initial value comes from `init` alone, and no other value from it
initial_value : (lists : Lists) (names : List (List ℕ)) (h : History) (a : ℕ) → IsFrom lists names h x 0 a → a ≡ 0
initial_value lists names h a (below, inl (none, first)) = first
initial_value lists names h a (below, inr (some, more, gives)) = absurd (some refl)

other_value : (lists : Lists) (names : List (List ℕ)) (h : History) → IsFrom lists names h x 7 0 → ⊥
other_value lists names h (below, inl (none, first)) = absurd (omega (arith, none))
other_value lists names h (below, inr (some, more, gives)) = absurd (omega (arith, more))
