-- Small histories, and which of their reads are contradicted, worked out by hand.
use Rattle.std.proofs.Common.{ℕ, ◌≡◌, true, List, [], ◌∷◌, refl, subst, arith}
use Rattle.std.proofs.lemmas.Bool.{false≢true}
use Rattle.tcc_graph.specs.Levels.{causally, atomically}
use Rattle.tcc_graph.specs.Relations.{causal_pair}
use Rattle.tcc_graph.specs.Links.{IsReason}
use Rattle.tcc_graph.specs.declared.step.Step.{Step}
use Rattle.tcc_graph.specs.declared.step.Step.TheVariants as step
use Rattle.tcc_graph.proofs.Pairs.{first_pair}
use Rattle.tcc_graph.proofs.Worked.{x, y, stale_read, long_chain, long_chain-link}
use Rattle.tcc_survey.specs.Contradictions.{IsContradictedBy, Contradicts, HasRead}

-- a/2 reads the initial value of x, though its own session wrote x before
stale_read-by : IsContradictedBy (causally stale_read) 2 x 0 1
stale_read-by = (
  (
    step.Session 1 2 ∷ [],
    (
      ((λ e. absurd (omega arith)), (omega arith, omega arith, (0, omega arith, refl)), (omega arith, refl)),
      ((omega arith, (refl, refl, refl)), tt),
    ),
  ),
  (step.Session 0 1 ∷ [], (omega arith, (refl, refl, refl))),
)

-- it is the first read of a/2
stale_read-first : HasRead (causally stale_read) 2 0 × Contradicts (causally stale_read) 2 0 1
stale_read-first = ((omega arith, omega arith), stale_read-by)

-- c/2 reads the initial value of x, and had observed a/1 by three pairs
long_chain-by : IsContradictedBy (causally long_chain) 4 x 0 1
long_chain-by = (
  (step.Reads 1 2 x ∷ step.Reads 2 3 y ∷ step.Session 3 4 ∷ [], long_chain-link),
  (step.Session 0 1 ∷ [], (omega arith, (refl, refl, refl))),
)

-- at `Atomic` that is no contradiction: no single pair leads from a/1 to c/2
long_chain-atomic : IsContradictedBy (atomically long_chain) 4 x 0 1 → ⊥
long_chain-atomic w = one w.0.0 w.0.1
  where
    one : (walk : List Step) → IsReason (atomically long_chain) 1 0 x 4 walk → ⊥
    one [] is = absurd (omega (arith, is.1.0.0))
    one (s ∷ []) is =
        false≢true (subst (λ (z : ℕ). causal_pair long_chain 1 z ≡ true) is.1.0.1.2 (first_pair long_chain 1 4 s [] is.1.0.1))
    one (s ∷ t ∷ steps) is = absurd (omega (arith, is.1.1))
