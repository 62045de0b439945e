-- What holds each transaction back, in the terms of Kahn's algorithm.
use Rattle.std.specs.Prelude.{ℕ, ◌≡◌, Bool, length}
use Rattle.tcc_reads.specs.History.{count}
use Rattle.tcc_clocks.specs.Parents.{ArePrevious}
use Rattle.tcc_order.specs.private.Held.{holds, AreInside}
use Rattle.tcc_order.specs.declared.kahn.Precedence.{Precedence}

-- b holds x back
abbrev pub precedes : Precedence → ℕ → ℕ → Bool
precedes p = holds p.graph.now p.kept.now

-- the parents are those of the history, and the links lead into its transactions from others of them
pub record IsKnown (p : Precedence) : Type 0 where
  pub parents : ArePrevious p.graph.now p.parents.now
  pub long : length p.kept.now ≡ count p.graph.now
  pub inside : AreInside p.graph.now p.kept.now
