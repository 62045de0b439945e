use Rattle.std.proofs.Common.{sym}
use Rattle.tcc_graph.proofs.GroupedLemmas.{of_group-zip}
use Rattle.tcc_graph.proofs.grouped.Grouped.get.Goals as goal

pub returns : goal.returns
returns g c =
    rw (c.deref-2.ensures.value, ← c.self.view_is)
    (sym (of_group-zip c.self.inside.groups.items c.self.inside.values.items c.args.group c.span-start.result.0 c.span-start.result.1
    c.self.invariant.0 (rw (← c.deref.ensures.value) c.span-start.ensures)))
