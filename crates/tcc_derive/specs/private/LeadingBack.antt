-- Walks step by step, from the last backwards.
use Rattle.std.specs.Prelude.{ℕ, ◌<◌, ◌≡◌, ◌⊎◌, ◌==◌, Bool, true, List, [], ◌∷◌, length, slice_index, if◌then◌else◌}
use Rattle.std.specs.declared.cmp.Ordering.TheVariants.{Less}
use Rattle.tcc_reads.specs.History.{History}
use Rattle.tcc_graph.specs.Walks.{step_from, step_to, IsStep}
use Rattle.tcc_graph.specs.Levels.{Judged}
use Rattle.tcc_graph.specs.Ties.{step_cmp}
use Rattle.tcc_graph.specs.declared.step.Step.{Step}
use Rattle.tcc_near.specs.WalkLengths.{IsShortest}

-- the step comes before the other, or is equal to it
abbrev pub IsUpTo : Step → Step → Type 0
IsUpTo s o = (step_cmp s o ≡ Less) ⊎ (s ≡ o)

-- a step from u to v, and the first such step
pub record IsFirstStep (h : History) (u : ℕ) (v : ℕ) (s : Step) : Type 0 where
  pub step : IsStep h s
  pub from : step_from s ≡ u
  pub to : step_to s ≡ v
  pub first : (o : Step) → IsStep h o → step_from o ≡ u → step_to o ≡ v → IsUpTo s o

-- the fewest steps from b to u are n; 0 steps lead only to b
abbrev pub stands_at : List ℕ → ℕ → ℕ → ℕ → Bool
stands_at steps b u n = if n == 0 then u == b else slice_index steps u == n

-- a step to v from a transaction to which n steps lead from b, and no fewer; and the first such step
pub record IsLastStep (h : History) (steps : List ℕ) (b : ℕ) (v : ℕ) (n : ℕ) (s : Step) : Type 0 where
  pub step : IsStep h s
  pub to : step_to s ≡ v
  pub stands : stands_at steps b (step_from s) n ≡ true
  pub first : (o : Step) → IsStep h o → step_to o ≡ v → stands_at steps b (step_from o) n ≡ true → IsUpTo s o

-- the steps lead back from v to b, each ending where the one before it begins
abbrev pub LeadsBack : History → ℕ → ℕ → List Step → Type 0
LeadsBack h b v [] = b ≡ v
LeadsBack h b v (s ∷ steps) = (step_to s ≡ v) × IsStep h s × LeadsBack h b (step_from s) steps

-- the first steps of the others are these, or come after them
abbrev pub Ahead : List Step → List Step → Type 0
Ahead [] others = Unit {0}
Ahead (s ∷ steps) [] = ⊥
Ahead (s ∷ steps) (o ∷ others) = (step_cmp s o ≡ Less) ⊎ ((s ≡ o) × Ahead steps others)

-- what is left of the way back to b: n steps lead from b to v, and no fewer
pub record IsLeft (j : Judged) (b : ℕ) (v : ℕ) (n : ℕ) : Type 0 where
  pub some : 0 < n → IsShortest j b v n
  pub none : n ≡ 0 → b ≡ v

-- the steps that were taken back from c: the first of all ways back from c to b with `total` steps
pub record IsTakenBack (h : History) (b : ℕ) (c : ℕ) (total : ℕ) (v : ℕ) (taken : List Step) : Type 0 where
  pub back : LeadsBack h v c taken
  pub first : (others : List Step) → LeadsBack h b c others → length others ≡ total → Ahead taken others
