use Rattle.std.proofs.Common.{sym}
use Rattle.tcc_graph.proofs.GroupedLemmas.{map-zip}
use Rattle.tcc_graph.proofs.grouped.Grouped.groups.Goals as goal

pub returns : goal.returns
returns g c =
    rw (c.deref.ensures.value, ← c.self.view_is) (sym (map-zip c.self.inside.groups.items c.self.inside.values.items c.self.invariant.0))
