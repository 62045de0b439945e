use Rattle.std.proofs.Common.{ap, List, ℕ, ◌∙◌}
use Rattle.tcc_reads.specs.Indexed.{entries_of}
use Rattle.tcc_graph.specs.Keys.{writers}
use Rattle.tcc_graph.specs.KeyIndices.{IsAbsent, StandsAt}
use Rattle.tcc_graph.specs.private.ReadTables.{over}
use Rattle.tcc_graph.proofs.GraphLemmas.{writers_here, writers_absent}
use Rattle.tcc_graph.proofs.large_graph.LargeGraph.writers.Goals as goal

pub returns-in-Some : goal.returns-in-Some
returns-in-Some c =
    let i = c.self.inside in
    let inv = c.self.invariant in
    let at : StandsAt i.keys.items c.args.key.now c.in-Some.key_index = rw (← c.deref.ensures.value) c.in-Some.ensures in
    rw (← c.self.view_is)
    (c.groups.ensures
    ∙ writers_here (entries_of i.keys.items i.indexed) i.keys.items i.indexed inv.sorted inv.indexed i.writers.rows inv.written inv.keyed c.in-Some.key_index at.within
    ∙ ap (λ (name : List ℕ). writers (over (entries_of i.keys.items i.indexed)) name) at.here)

pub returns-in-None : goal.returns-in-None
returns-in-None c =
    let i = c.self.inside in
    let none : IsAbsent i.keys.items c.args.key.now = rw (← c.deref.ensures.value) c.in-None.ensures in
    rw (← c.self.view_is) (writers_absent (entries_of i.keys.items i.indexed) i.keys.items c.self.invariant.keyed c.args.key.now none)
