use Rattle.tcc_slices.proofs.GrowthKeeps as keep
use Rattle.tcc_slices.proofs.laws.slices.Goals as goal

pub returns : goal.returns
returns c = record { links = keep.carries_links; cycles = keep.carries_cycles; anomalies = keep.carries_anomalies; costs = keep.carried_cost }
