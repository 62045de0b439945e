-- The first answer for a history of any size.
use Rattle.std.specs.Prelude.{ℕ}
use Rattle.tcc_graph.specs.Levels.{Judged}
use Rattle.tcc_graph.specs.Orders.{IsFirstOrder}
use Rattle.tcc_graph.specs.Ties.{IsFirstCycle}
use Rattle.tcc_answering.specs.declared.firsts.First.{First}
use Rattle.tcc_answering.specs.declared.firsts.First.TheVariants as first

-- the first commit order, or the first of the least cycles by the rule of ties
abbrev pub IsFirst : Judged → First → Type 0
IsFirst j (first.Order order) = IsFirstOrder j order.items
IsFirst j (first.Cycle links) = (s : ℕ) × IsFirstCycle j s links.items
