use Rattle.tcc_judge.specs.private.Sources.{AreLoweredTo}
use Rattle.tcc_judge.proofs.sources.lower_row.Given as goal

abbrev pub invariant-loop-session : goal.invariant-loop-session
invariant-loop-session l = AreLoweredTo l.key_index l.clock l.session l.initial.gaps l.gaps
