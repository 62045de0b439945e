use Rattle.std.proofs.Common.{sym}
use Rattle.std.proofs.lemmas.Slice.Zip.{seconds-zip}
use Rattle.tcc_graph.proofs.grouped.Grouped.values.Goals as goal

pub returns : goal.returns
returns g c =
    rw (c.deref.ensures.value, ← c.self.view_is) (sym (seconds-zip c.self.inside.groups.items c.self.inside.values.items c.self.invariant.0))
