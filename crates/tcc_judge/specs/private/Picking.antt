-- What is known about the cycles below a cost.
use Rattle.std.specs.Global.{Vec}
use Rattle.std.specs.Prelude.{ℕ, ◌<◌, ◌≤◌, ◌≡◌, ◌+◌, All, Option, None, Some}
use Rattle.tcc_reads.specs.History.{History, count}
use Rattle.tcc_graph.specs.Levels.{Judged}
use Rattle.tcc_least.specs.Shapes.{NoneBelow}
use Rattle.tcc_lanes.specs.Picked.{IsPickedAround}
use Rattle.tcc_judge.specs.declared.picking.OrderKept.{OrderKept}
use Rattle.tcc_judge.specs.private.Contradicted.{AreContradicted}
use Rattle.tcc_judge.specs.private.Decoding.{IsOrdered}
use Rattle.tcc_judge.specs.private.Positions.{KeepsPairs}
use Rattle.tcc_judge.specs.private.Sources.{AreSources}

-- an order of all transactions that keeps all pairs, and what it contradicts
pub record IsOrderKept (h : History) (kept : OrderKept) : Type 0 where
  pub ordered : IsOrdered h kept.order.items
  pub pairs : KeepsPairs h kept.order.items kept.positions.items
  pub found : AreContradicted h kept.order.items kept.positions.items kept.found.lasts.items kept.found.stale.items
  pub leading : AreSources h kept.order.items kept.found.sources.items

-- some cycle costs less than `most`; and where none costs less than `most - 1`, the links of the first of those begin at these transactions
abbrev pub IsCircleBelow : Judged → ℕ → Option (Vec ℕ) → Type 0
IsCircleBelow j most None = NoneBelow j most
IsCircleBelow j most (Some circle) =
    (NoneBelow j most → ⊥)
    × ((n : ℕ) → most ≡ n + 1 → NoneBelow j n → All (λ v. v < count j.history) circle.items × IsPickedAround j n circle.items)

-- what a least cycle costs, if that is less than `most`
abbrev pub IsLeastBelow : Judged → ℕ → Option ℕ → Type 0
IsLeastBelow j most None = NoneBelow j most
IsLeastBelow j most (Some c) = (c < most) × NoneBelow j c × (NoneBelow j (c + 1) → ⊥)

-- no cycle costs less than `none`, which each turn made greater
pub record IsNoneYet (j : Judged) (turn : ℕ) (none : ℕ) : Type 0 where
  pub below : NoneBelow j none
  pub low : 4 ≤ none
  pub greater : turn ≤ none
