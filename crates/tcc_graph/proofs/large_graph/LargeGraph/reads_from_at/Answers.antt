use Rattle.std.proofs.Common.{◌<◌, ◌≡◌, ℕ, List, length, map, refl, sym, subst}
use Rattle.tcc_reads.specs.History.{History}
use Rattle.tcc_graph.specs.KeyIndices.{name_of}
use Rattle.tcc_graph.specs.Tables.{row_of}
use Rattle.tcc_graph.specs.Relations.{reads_from}
use Rattle.tcc_graph.specs.private.Grouped.{of_group}
use Rattle.tcc_reads.specs.Indexed.{entries_of}
use Rattle.tcc_graph.specs.private.ReadTables.{over}
use Rattle.tcc_graph.proofs.GraphLemmas.{names_from, from_within}
use Rattle.tcc_graph.proofs.large_graph.LargeGraph.reads_from_at.Goals as goal

pub returns-clause-value : goal.returns-clause-value
returns-clause-value c =
    let entries = entries_of c.self.inside.keys.items c.self.inside.indexed in
    let inv = c.self.invariant in
    rw (← c.self.view_is, c.get.ensures)
    (subst (λ (names : List (List ℕ)). map (name_of names) (of_group (row_of c.self.inside.key_indices c.args.a) c.args.b) ≡ reads_from (over entries) c.args.a c.args.b)
    c.self.invariant.keyed
    (names_from entries c.self.inside.keys.items c.self.inside.indexed inv.sorted inv.indexed c.self.inside.key_indices inv.read_indexed c.args.a
    (subst (λ (h : History). c.args.a < length h.entries) (sym c.self.view_is) c.requires.from) (row_of c.self.inside.key_indices c.args.a) refl c.args.b
    (subst (λ (h : History). c.args.b < length h.entries) (sym c.self.view_is) c.requires.to)))

pub returns-clause-within : goal.returns-clause-within
returns-clause-within c =
    let entries = entries_of c.self.inside.keys.items c.self.inside.indexed in
    let inv = c.self.invariant in
    rw (← c.self.view_is, c.get.ensures, ← c.self.invariant.keyed)
    (from_within entries c.self.inside.keys.items c.self.inside.indexed inv.sorted inv.indexed c.self.inside.key_indices inv.read_indexed c.args.a
    (subst (λ (h : History). c.args.a < length h.entries) (sym c.self.view_is) c.requires.from) (row_of c.self.inside.key_indices c.args.a) refl c.args.b
    (subst (λ (h : History). c.args.b < length h.entries) (sym c.self.view_is) c.requires.to))
