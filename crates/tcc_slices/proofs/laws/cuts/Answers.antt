use Rattle.tcc_slices.proofs.Faultless.{faultless}
use Rattle.tcc_slices.proofs.OwnLinks.{cycle_moved}
use Rattle.tcc_slices.proofs.Whole.{keeps}
use Rattle.tcc_slices.proofs.laws.cuts.Goals as goal

pub returns : goal.returns
returns c = record { resolved = faultless; kept = keeps; cycles = cycle_moved }
