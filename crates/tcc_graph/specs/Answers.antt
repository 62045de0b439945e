-- What the answer for a history at a level is.
use Rattle.std.specs.Prelude.{ℕ, List}
use Rattle.tcc_graph.specs.Levels.{Judged}
use Rattle.tcc_graph.specs.Routes.{HasCycle}
use Rattle.tcc_graph.specs.Orders.{IsFirstOrder}
use Rattle.tcc_graph.specs.Ties.{IsFirstCycle}
use Rattle.tcc_graph.specs.declared.link.Link.{Link}

-- a commit order, or a cycle with its start
pub data Answer : Type 0 where
  Order : List ℕ → Answer
  Cycle : ℕ → List Link → Answer

-- the first answer: without a cycle the first commit order, else the first of the least cycles
abbrev pub IsFirstAnswer : Judged → Answer → Type 0
IsFirstAnswer j (Order order) = (HasCycle j → ⊥) × IsFirstOrder j order
IsFirstAnswer j (Cycle s links) = IsFirstCycle j s links
