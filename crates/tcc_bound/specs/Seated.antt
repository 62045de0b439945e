-- What contracts see of a seat.
use Rattle.atomic_table.specs.Seated.{TableId}
use Rattle.tcc_bound.specs.declared.known.Known.{Known}

-- what distinguishes bounds from each other
abbrev pub BoundId : Type 0
BoundId = TableId

-- which bound it is a seat of, and what it knows
pub record Seated : Type 0 where
  pub bound : BoundId
  pub known : Known
