-- Cycles if all pairs rise, and those through `init`.
use Rattle.std.specs.Prelude.{ℕ, ◌<◌, ◌≤◌, List, Contains, length}
use Rattle.tcc_reads.specs.History.{History}
use Rattle.tcc_graph.specs.Relations.{IsCausalPair}
use Rattle.tcc_graph.specs.Levels.{Judged}
use Rattle.tcc_graph.specs.Links.{IsReason}
use Rattle.tcc_graph.specs.declared.step.Step.{Step}
use Rattle.tcc_graph.specs.declared.link.Link.{Link}
use Rattle.tcc_graph.specs.declared.link.Link.TheVariants as link

-- each pair leads to a greater rank
abbrev pub Rises : History → (ℕ → ℕ) → Type 0
Rises h rank = (a : ℕ) (b : ℕ) → IsCausalPair h a b → rank a < rank b

-- one of the links is derived, and leads to no greater rank
abbrev pub HasLinkBack : (ℕ → ℕ) → List Link → Type 0
HasLinkBack rank links =
    (b : ℕ) × (a : ℕ) × (x : List ℕ) × (c : ℕ) × (walk : List Step) × Contains links (link.Derived b a x c walk) × (rank a ≤ rank b)

-- no pair leads into `init`
abbrev pub NoneIntoInit : History → Type 0
NoneIntoInit h = (a : ℕ) → IsCausalPair h a 0 → ⊥

-- a reason against `init` whose walk has at most n steps
abbrev pub HasReasonAgainstInit : Judged → ℕ → Type 0
HasReasonAgainstInit j n = (b : ℕ) × (x : List ℕ) × (c : ℕ) × (walk : List Step) × IsReason j b 0 x c walk × (length walk ≤ n)
