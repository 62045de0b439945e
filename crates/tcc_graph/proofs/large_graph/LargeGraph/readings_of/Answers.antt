use Rattle.std.proofs.Common.{◌∙◌, sym}
use Rattle.std.proofs.lemmas.List.{length-map}
use Rattle.tcc_reads.specs.Indexed.{entries_of}
use Rattle.tcc_graph.specs.Tables.{row_of}
use Rattle.tcc_graph.proofs.GraphLemmas.{key_order, key_readings}
use Rattle.tcc_graph.proofs.large_graph.LargeGraph.readings_of.Goals as goal

pub returns : goal.returns
returns c =
    let names = c.self.inside.keys.items in
    let indexed = c.self.inside.indexed in
    let entries = entries_of names indexed in
    let readers = c.self.inside.readers in
    let inv = c.self.invariant in
    let within = rw (← c.self.view_is, ← c.self.invariant.keyed) at c.requires in
    let row = row_of readers c.args.key_index in
    rw (← c.self.view_is, c.groups.ensures.value, c.values.ensures) (record {
      long = length-map row (λ p. p.0) ∙ sym (length-map row (λ p. p.1));
      each = λ a r. rw (← c.self.invariant.keyed) (key_readings entries names indexed inv.sorted inv.indexed readers inv.read c.args.key_index within a r);
      order = key_order entries names indexed inv.sorted inv.indexed readers inv.read c.args.key_index within;
    })
