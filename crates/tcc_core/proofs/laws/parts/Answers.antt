use Rattle.tcc_core.proofs.PartLemmas.{none_below, front_distance, part_least}
use Rattle.tcc_core.proofs.laws.parts.Goals as goal

pub returns : goal.returns
returns c = record { above = none_below; front = front_distance; least = part_least }
