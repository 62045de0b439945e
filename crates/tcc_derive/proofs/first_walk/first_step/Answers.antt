use Rattle.std.proofs.Common.{sym}
use Rattle.tcc_derive.proofs.StepLemmas.{reads_step}
use Rattle.tcc_derive.proofs.first_walk.first_step.Goals as goal

pub returns : goal.returns
returns c =
    reads_step c.args.graph.now c.args.from c.args.to c.in_ok-key.key c.requires.from c.requires.to (rw c.deref.ensures.value at (sym c.if-session.ensures))
    (rw c.reads_from.ensures at c.in_ok-key.ensures)
