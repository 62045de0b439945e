use Rattle.std.proofs.Common.{◌<◌, length, refl, sym, subst, ap, ◌∙◌}
use Rattle.tcc_reads.specs.History.{History}
use Rattle.tcc_graph.specs.KeyIndices.{name_of}
use Rattle.tcc_graph.specs.Tables.{row_of}
use Rattle.tcc_graph.specs.Relations.{has_items}
use Rattle.tcc_graph.specs.private.Grouped.{of_group}
use Rattle.tcc_reads.specs.Indexed.{entries_of}
use Rattle.tcc_graph.specs.private.ReadTables.{history_of}
use Rattle.tcc_graph.proofs.GraphLemmas.{names_from, has_items-map, causal_at}
use Rattle.tcc_graph.proofs.large_graph.LargeGraph.causal.Goals as goal

pub returns-else-session : goal.returns-else-session
returns-else-session c =
    rw (← c.self.view_is)
    (let names = c.self.inside.keys.items in
    let indexed = c.self.inside.indexed in
    let inv = c.self.invariant in
    let row = row_of c.self.inside.key_indices c.args.a in
    let from = subst (λ (h : History). c.args.a < length h.entries) (sym c.self.view_is) c.requires.from in
    let to = subst (λ (h : History). c.args.b < length h.entries) (sym c.self.view_is) c.requires.to in
    causal_at (history_of c.self.inside.sessions.items names indexed) c.args.a c.args.b from to
    (rw (← c.self.view_is) at (sym c.session.ensures ∙ c.if-session.false)) c.has.result
    (c.has.ensures ∙ sym (has_items-map (name_of names) (of_group row c.args.b))
    ∙ ap has_items (names_from (entries_of names indexed) names indexed inv.sorted inv.indexed c.self.inside.key_indices inv.read_indexed c.args.a from row
    refl c.args.b to)))
