use Rattle.std.proofs.Common.{◌∙◌}
use Rattle.tcc_reads.specs.Indexed.{entries_of}
use Rattle.tcc_graph.proofs.GraphLemmas.{writers_here}
use Rattle.tcc_graph.proofs.large_graph.LargeGraph.writers_at.Goals as goal

pub returns : goal.returns
returns c =
    let i = c.self.inside in
    let inv = c.self.invariant in
    rw (← c.self.view_is, ← inv.keyed)
    (c.groups.ensures
    ∙ writers_here (entries_of i.keys.items i.indexed) i.keys.items i.indexed inv.sorted inv.indexed i.writers.rows inv.written inv.keyed c.args.key_index
    (rw (← c.self.view_is, ← inv.keyed) at c.requires))
