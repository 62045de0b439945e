use Rattle.std.proofs.Common.{get_or}
use Rattle.tcc_lanes.proofs.WordLemmas.{AreJoined}
use Rattle.tcc_lanes.proofs.into_init.lanes_written.Given as goal

abbrev pub invariant-loop-key_index : goal.invariant-loop-key_index
invariant-loop-key_index l = AreJoined l.key_lanes (λ m. get_or l.key_index-items m 0) l.key_index-index l.word
