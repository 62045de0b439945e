use Rattle.tcc_slices.proofs.Growth.{grown}
use Rattle.tcc_slices.proofs.GrowthKeeps as keep
use Rattle.tcc_slices.proofs.laws.growth.Goals as goal

pub returns : goal.returns
returns c = record {
  slice = grown;
  labels = keep.keeps_labels;
  links = keep.keeps_links;
  cycles = keep.keeps_cycles;
  anomalies = keep.keeps_anomalies;
  costs = keep.costs_no_more;
  missed = λ small large level s links n grows. keep.none_missing small large grows level s links n;
}
