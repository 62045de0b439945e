use Rattle.std.proofs.Common.{◌<◌, ◌≡◌, ◌∙◌, ℕ, List, length, map, refl, sym, subst}
use Rattle.std.proofs.lemmas.List.{length-map}
use Rattle.tcc_reads.specs.History.{History}
use Rattle.tcc_graph.specs.KeyIndices.{name_of}
use Rattle.tcc_graph.specs.Tables.{row_of}
use Rattle.tcc_graph.specs.Relations.{reads_from}
use Rattle.tcc_graph.specs.private.Grouped.{of_group}
use Rattle.tcc_reads.specs.Indexed.{entries_of}
use Rattle.tcc_graph.specs.private.ReadTables.{over}
use Rattle.tcc_graph.proofs.GroupedLemmas.{zip-map}
use Rattle.tcc_graph.proofs.GraphLemmas.{indices_within, index_readings, indices_order, names_from}
use Rattle.tcc_graph.proofs.large_graph.LargeGraph.read_at.Goals as goal

pub returns-clause-readings : goal.returns-clause-readings
returns-clause-readings c =
    let names = c.self.inside.keys.items in
    let indexed = c.self.inside.indexed in
    let entries = entries_of names indexed in
    let table = c.self.inside.key_indices in
    let inv = c.self.invariant in
    let row = row_of table c.args.a in
    let from = subst (λ (h : History). c.args.a < length h.entries) (sym c.self.view_is) c.requires in
    rw (← c.self.view_is, c.groups.ensures.value, c.values.ensures) (record {
      long = length-map row (λ p. p.0) ∙ sym (length-map row (λ p. p.1));
      within = rw (← c.self.invariant.keyed) (indices_within entries names indexed inv.sorted inv.indexed table inv.read_indexed c.args.a from row refl);
      each = λ r k. rw (← c.self.invariant.keyed) (index_readings entries names indexed inv.sorted inv.indexed table inv.read_indexed c.args.a from row refl r k);
      order = indices_order entries names indexed inv.sorted inv.indexed table inv.read_indexed c.args.a from row refl inv.reads_ordered;
    })

pub returns-clause-from : goal.returns-clause-from
returns-clause-from c =
    let names = c.self.inside.keys.items in
    let indexed = c.self.inside.indexed in
    let inv = c.self.invariant in
    let row : List (ℕ × ℕ) = row_of c.self.inside.key_indices c.args.a in
    rw (← c.self.view_is, c.groups.ensures.value, c.values.ensures, zip-map row) (λ b to.
    subst (λ (keys : List (List ℕ)). map (name_of keys) (of_group row b) ≡ reads_from (over (entries_of names indexed)) c.args.a b)
    c.self.invariant.keyed
    (names_from (entries_of names indexed) names indexed inv.sorted inv.indexed c.self.inside.key_indices inv.read_indexed c.args.a
    (subst (λ (h : History). c.args.a < length h.entries) (sym c.self.view_is) c.requires) row refl b to))
