-- Causal walks.
use Rattle.std.specs.Prelude.{ℕ, ◌<◌, ◌≡◌, List, [], ◌∷◌, length}
use Rattle.tcc_reads.specs.History.{History}
use Rattle.tcc_graph.specs.Relations.{IsSessionPair, IsReadsPair}
use Rattle.tcc_graph.specs.declared.step.Step.{Step}
use Rattle.tcc_graph.specs.declared.step.Step.TheVariants as step

abbrev pub step_from : Step → ℕ
step_from (step.Session a b) = a
step_from (step.Reads a b x) = a

abbrev pub step_to : Step → ℕ
step_to (step.Session a b) = b
step_to (step.Reads a b x) = b

-- a session pair, or a reads-from pair by the key
abbrev pub IsStep : History → Step → Type 0
IsStep h (step.Session a b) = IsSessionPair h a b
IsStep h (step.Reads a b x) = IsReadsPair h a b x

-- both ends of a step are numbers below n
abbrev pub IsStepBelow : ℕ → Step → Type 0
IsStepBelow n s = (step_from s < n) × (step_to s < n)

-- the steps lead from a to b, each from where the one before ends
abbrev pub Leads : History → ℕ → ℕ → List Step → Type 0
Leads h a b [] = a ≡ b
Leads h a b (s ∷ steps) = (step_from s ≡ a) × IsStep h s × Leads h (step_to s) b steps

-- a causal walk from a to b has at least one step, even if a is b; its length is the number of its steps
abbrev pub IsWalk : History → ℕ → ℕ → List Step → Type 0
IsWalk h a b walk = (0 < length walk) × Leads h a b walk

-- the transaction b is reached from a
abbrev pub IsReached : History → ℕ → ℕ → Type 0
IsReached h a b = (walk : List Step) × IsWalk h a b walk
