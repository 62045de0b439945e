use Rattle.tcc_core.proofs.Offered.{HasOffered}
use Rattle.tcc_core.proofs.relaxing.offer_within.Given as goal

abbrev pub invariant-loop-to : goal.invariant-loop-to
invariant-loop-to l = HasOffered l.links l.start l.so_far l.left l.to-index l.initial.queue l.queue
