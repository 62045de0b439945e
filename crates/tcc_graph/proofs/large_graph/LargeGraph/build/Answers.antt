use Rattle.std.proofs.Common.{◌≡◌, List, length, refl, sym, subst, arith}
use Rattle.tcc_reads.specs.History.{Entry}
use Rattle.tcc_reads.specs.Indexed.{Indexed, entries_of}
use Rattle.tcc_graph.specs.private.ReadTables.{AreIndexed}
use Rattle.tcc_graph.specs.private.Graphs.{IsGraph}
use Rattle.tcc_graph.proofs.IndexedLemmas.{indexed_sources, names_again, table_within, writes_within, reads_within}
use Rattle.tcc_graph.proofs.GraphLemmas.{read_in_order}
use Rattle.tcc_graph.proofs.KeyTableLemmas.{turned_round}
use Rattle.tcc_graph.proofs.large_graph.LargeGraph.build.Goals as goal

pub index_table-requires-clause-sources : goal.index_table-requires-clause-sources
index_table-requires-clause-sources c =
    let parts = c.parts_of-sessions.result in
    indexed_sources c.in_ok-keys.field-0.keys.items (entries_of parts.keys.items parts.transactions) c.in_ok-keys.field-0.indexed
    c.in_ok-keys.ensures.indexed c.parts_of-sessions.ensures.transactions.sources

pub key_writers-requires-clause-writes : goal.key_writers-requires-clause-writes
key_writers-requires-clause-writes c =
    let parts = c.parts_of-sessions.result in
    let long : c.len.result ≡ length c.in_ok-keys.field-0.keys.items = omega (arith, c.len.ensures) in
    rw long
    (writes_within c.in_ok-keys.field-0.keys.items (entries_of parts.keys.items parts.transactions) c.in_ok-keys.field-0.indexed
    c.in_ok-keys.ensures.indexed)

pub key_readers-requires-clause-within : goal.key_readers-requires-clause-within
key_readers-requires-clause-within c =
    let parts = c.parts_of-sessions.result in
    let names = c.in_ok-keys.field-0.keys.items in
    let long : c.len-2.result ≡ length names = omega (arith, c.len-2.ensures) in
    rw long
    (table_within c.in_ok-keys.field-0.indexed (length names)
    (reads_within names (entries_of parts.keys.items parts.transactions) c.in_ok-keys.field-0.indexed c.in_ok-keys.ensures.indexed)
    c.in_ok-key_indices.key_indices c.in_ok-key_indices.ensures)

pub invariant_of-result : goal.invariant_of-result
invariant_of-result c =
    let parts = c.parts_of-sessions.result in
    let sessions = parts.sessions.items in
    let entries : List Entry = entries_of parts.keys.items parts.transactions in
    let list = c.parts_of-sessions.ensures.transactions in
    let names = c.in_ok-keys.field-0.keys.items in
    let indexed : List Indexed = c.in_ok-keys.field-0.indexed in
    let are : AreIndexed names entries indexed = c.in_ok-keys.ensures.indexed in
    let table = c.in_ok-key_indices.key_indices in
    let ones : c.len.result ≡ length names = omega (arith, c.len.ensures) in
    let others : c.len-2.result ≡ length names = omega (arith, c.len-2.ensures) in
    subst (λ es. IsGraph sessions es names indexed table c.in_ok-writers.writers.rows c.in_ok-readers.readers) (sym (names_again names entries indexed are))
    (record {
      few_sessions = rw c.parts_of-sessions.ensures.sessions.0 c.parts_of-sessions.ensures.sessions.1;
      some = list.some;
      few = list.few;
      owners = rw c.parts_of-sessions.ensures.sessions.0 list.owners;
      ordered = list.ordered;
      sources = list.sources;
      reads_ordered = list.reads_ordered;
      keyed = c.in_ok-keys.ensures.value;
      sorted = c.in_ok-keys.ensures.sorted;
      indexed = are;
      read_indexed = rw (← are.long) c.in_ok-key_indices.ensures;
      written = rw (← ones, ← are.long) c.in_ok-writers.ensures;
      read = turned_round indexed table c.in_ok-key_indices.ensures
          (λ a b h. read_in_order entries names indexed c.in_ok-keys.ensures.sorted are list.reads_ordered a b (omega (arith, h, are.long)))
          (length names) c.in_ok-readers.readers (rw (← others) c.in_ok-readers.ensures);
    })

pub returns : goal.returns
returns c =
    let parts = c.parts_of-sessions.result in
    rw (
      names_again c.in_ok-keys.field-0.keys.items (entries_of parts.keys.items parts.transactions) c.in_ok-keys.field-0.indexed
          c.in_ok-keys.ensures.indexed,
      c.parts_of-sessions.ensures.transactions.is,
      c.parts_of-sessions.ensures.sessions.0,
    ) refl
