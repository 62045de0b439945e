-- What answers hold.
use Rattle.std.specs.Prelude.{ℕ, List}
use Rattle.tcc_graph.specs.declared.level.Level.{Level}
use Rattle.tcc_graph.specs.declared.link.Link.{Link}

-- an order of all transactions by number at a level, how many sessions the snapshot has, the clocks by which the order
-- can be checked, and the names of the transactions
pub record LabelledOrder : Type 0 where
  pub level : Level
  pub order : List ℕ
  pub sessions : ℕ
  pub clocks : List (List ℕ)
  pub labels : List (List ℕ)

-- the links of a cycle at a level, the tables by which it can be checked, and the names of the transactions
pub record LabelledCycle : Type 0 where
  pub level : Level
  pub links : List Link
  pub near : List (List ℕ)
  pub far : List (List ℕ)
  pub labels : List (List ℕ)
