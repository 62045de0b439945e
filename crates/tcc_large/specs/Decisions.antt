-- What is decided about a history of any size.
use Rattle.std.specs.Prelude.{ℕ, ◌<◌, ◌≤◌, ◌≡◌, List}
use Rattle.tcc_graph.specs.Levels.{Judged}
use Rattle.tcc_graph.specs.Links.{cost}
use Rattle.tcc_graph.specs.Orders.{IsFirstOrder}
use Rattle.tcc_graph.specs.Ties.{IsFirstCycle}
use Rattle.tcc_graph.specs.declared.link.Link.{Link}
use Rattle.tcc_least.specs.Shapes.{AreLeast, NoneBelow}
use Rattle.tcc_graph.specs.Routes.{AreCycle}
use Rattle.tcc_large.specs.Cycles.{IsSimple}
use Rattle.tcc_large.specs.declared.decision.Decision.{Decision}
use Rattle.tcc_large.specs.declared.decision.Decision.TheVariants as decision

-- where the links cost at most three steps, they are the first of the least cycles by the rule of ties
abbrev pub IsFirstIfShort : Judged → List Link → Type 0
IsFirstIfShort j links = cost links ≤ 3 → (s : ℕ) × IsFirstCycle j s links

-- the first commit order; or the links of a least cycle, which is the first one where it costs at most three steps. Or else the links of a
-- cycle that costs more than four steps, where none costs less than four. A least cycle passes no transaction twice by the law `least`, and
-- neither does the other one
abbrev pub IsDecision : Judged → Decision → Type 0
IsDecision j (decision.Order order) = IsFirstOrder j order.items
IsDecision j (decision.Least links) = AreLeast j links.items × IsFirstIfShort j links.items
IsDecision j (decision.Cycle links) = AreCycle j links.items × (4 < cost links.items) × NoneBelow j 4 × IsSimple links.items

-- the links of a decision for a cycle; and that it has none
abbrev pub HasLinks : Decision → List Link → Type 0
HasLinks (decision.Order order) links = ⊥
HasLinks (decision.Least found) links = links ≡ found.items
HasLinks (decision.Cycle found) links = links ≡ found.items

abbrev pub HasNone : Decision → Type 0
HasNone (decision.Order order) = Unit {0}
HasNone (decision.Least links) = ⊥
HasNone (decision.Cycle links) = ⊥
