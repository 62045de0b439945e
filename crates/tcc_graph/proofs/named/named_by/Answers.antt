use Rattle.tcc_graph.proofs.NamedLemmas.{more_named}
use Rattle.tcc_graph.proofs.named.named_by.Goals as goal

pub loop-n-preserved : goal.loop-n-preserved
loop-n-preserved c =
    rw c.in_ok-push.ensures.items (more_named c.args.graph.now c.loop-n.n c.loop-n.names.items c.in_ok-of.field-0 c.loop-n.invariant c.in_ok-of.ensures)
