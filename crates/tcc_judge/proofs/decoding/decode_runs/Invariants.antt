use Rattle.std.proofs.Common.{take}
use Rattle.tcc_judge.specs.private.Decoding.{IsTold}
use Rattle.tcc_judge.proofs.decoding.decode_runs.Given as goal

abbrev pub invariant-loop-run : goal.invariant-loop-run
invariant-loop-run l = IsTold l.graph (take l.run-index l.runs) l.decoder.firsts.items l.decoder.next.items l.decoder.order.items
