use Rattle.tcc_judge.specs.private.Sources.{AreLoweredWith, IsGapIn}
use Rattle.tcc_judge.proofs.sources.lower_readings.Given as goal

abbrev pub invariant-loop-index : goal.invariant-loop-index
invariant-loop-index l = AreLoweredWith (IsGapIn l.clocks l.readers l.key_indices l.index) l.initial.gaps l.gaps
