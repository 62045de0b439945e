use Rattle.tcc_derive.proofs.TableLemmas.{all_sources, all_readers}
use Rattle.tcc_derive.proofs.edge_weights.all_prices.Goals as goal

pub source_table-requires-clause-sources : goal.source_table-requires-clause-sources
source_table-requires-clause-sources g c =
    rw c.deref-3.ensures.value
    (all_sources c.args.graph.now c.count.result c.in_ok-reads.reads.items c.count.ensures.value (rw c.deref-2.ensures.value at c.in_ok-reads.ensures))

pub source_table-requires-clause-readers : goal.source_table-requires-clause-readers
source_table-requires-clause-readers g c =
    rw c.deref-3.ensures.value
    (all_readers c.args.graph.now c.count.result c.in_ok-reads.reads.items c.count.ensures.value (rw c.deref-2.ensures.value at c.in_ok-reads.ensures))
