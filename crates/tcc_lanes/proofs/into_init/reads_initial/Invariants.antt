use Rattle.tcc_lanes.proofs.IntoInit.{NoneRead}
use Rattle.tcc_lanes.proofs.into_init.reads_initial.Given as goal

abbrev pub invariant-loop-read : goal.invariant-loop-read
invariant-loop-read l = NoneRead l.key_lanes l.word l.read-items l.read-index
