-- Reading goes on from line to line, and never back.
use Rattle.std.specs.Prelude.{◌≤◌}
use Rattle.tcc_cert.specs.Outcomes.{reached}
use Rattle.tcc_cert.specs.Reading.{Position, Reads}

-- from this position the reading ended at no line before it
pub record IsOnward {X : Type 0} (at : Position) (read : Reads X) : Type 0 where
  pub onward : at.line ≤ reached read
