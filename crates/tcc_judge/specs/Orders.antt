-- Where an order breaks a rule.
use Rattle.std.specs.Prelude.{ℕ, List}
use Rattle.tcc_reads.specs.History.{History}
use Rattle.tcc_graph.specs.Relations.{IsReadsPair}
use Rattle.tcc_graph.specs.Levels.{Judged}
use Rattle.tcc_graph.specs.Links.{IsReason}
use Rattle.tcc_graph.specs.Orders.{Before}
use Rattle.tcc_graph.specs.declared.step.Step.{Step}

-- c reads from a, and a does not come before it
abbrev pub BreaksPair : History → List ℕ → ℕ × ℕ → Type 0
BreaksPair h order at = (x : List ℕ) × IsReadsPair h at.0 at.1 x × (Before order at.0 at.1 → ⊥)

-- the level gives a reason why b has to come before a, and b does not
abbrev pub BreaksAxiom : Judged → List ℕ → ℕ × ℕ → Type 0
BreaksAxiom j order at =
    (x : List ℕ) × (c : ℕ) × (walk : List Step) × IsReason j at.0 at.1 x c walk × (Before order at.0 at.1 → ⊥)
