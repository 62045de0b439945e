use Rattle.tcc_graph.proofs.GroupedLemmas.{has_span}
use Rattle.tcc_graph.proofs.grouped.Grouped.has.Goals as goal

pub returns : goal.returns
returns g c =
    rw (← c.self.view_is)
    (has_span c.self.inside.groups.items c.self.inside.values.items c.args.group c.span-start.result.0 c.span-start.result.1
    c.self.invariant.0 (rw (← c.deref.ensures.value) c.span-start.ensures))
