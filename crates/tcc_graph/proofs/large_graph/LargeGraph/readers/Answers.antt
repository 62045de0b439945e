use Rattle.std.proofs.Common.{◌<◌, ap, length, List, ℕ, ◌∙◌, subst, sym}
use Rattle.tcc_reads.specs.History.{History}
use Rattle.tcc_reads.specs.Indexed.{entries_of}
use Rattle.tcc_graph.specs.Keys.{readers}
use Rattle.tcc_graph.specs.KeyIndices.{IsAbsent, StandsAt}
use Rattle.tcc_graph.specs.private.ReadTables.{over}
use Rattle.tcc_graph.proofs.GraphLemmas.{readers_here, readers_absent}
use Rattle.tcc_graph.proofs.large_graph.LargeGraph.readers.Goals as goal

pub returns-in-Some : goal.returns-in-Some
returns-in-Some c =
    let i = c.self.inside in
    let inv = c.self.invariant in
    let at : StandsAt i.keys.items c.args.key.now c.in-Some.key_index = rw (← c.deref.ensures.value) c.in-Some.ensures in
    rw (← c.self.view_is)
    (c.get.ensures
    ∙ readers_here (entries_of i.keys.items i.indexed) i.keys.items i.indexed inv.sorted inv.indexed i.readers inv.read c.in-Some.key_index at.within c.args.a
    (subst (λ (h : History). c.args.a < length h.entries) (sym c.self.view_is) c.requires)
    ∙ ap (λ (name : List ℕ). readers (over (entries_of i.keys.items i.indexed)) c.args.a name) at.here)

pub returns-in-None : goal.returns-in-None
returns-in-None c =
    let i = c.self.inside in
    let none : IsAbsent i.keys.items c.args.key.now = rw (← c.deref.ensures.value) c.in-None.ensures in
    rw (← c.self.view_is) (readers_absent (entries_of i.keys.items i.indexed) i.keys.items c.self.invariant.keyed c.args.key.now c.args.a none)
