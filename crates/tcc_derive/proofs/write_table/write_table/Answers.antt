use Rattle.std.proofs.Common.{◌<◌, ◌≡◌, [], length, sym, ap, ◌∙◌, take_at}
use Rattle.std.proofs.lemmas.List.{get_or_read}
use Rattle.tcc_graph.specs.Keys.{keys}
use Rattle.tcc_graph.specs.KeyIndices.{name_of}
use Rattle.tcc_graph.proofs.WriterLemmas.{writers_below}
use Rattle.tcc_derive.proofs.TableLemmas.{writes_added}
use Rattle.tcc_derive.proofs.write_table.write_table.Goals as goal

pub add_key-requires : goal.add_key-requires
add_key-requires c = rw (c.writers.ensures, c.deref_mut.ensures.value, c.loop-key_index.invariant.long) (writers_below c.args.graph.now c.key-item.result)

pub loop-key_index-preserved : goal.loop-key_index-preserved
loop-key_index-preserved c =
    let h = c.args.graph.now in
    let n = c.loop-key_index.key_index in
    let within : n < length (keys h) = rw c.keys-key-items.ensures at c.loop-key_index-test.true in
    let is : c.key-item.result ≡ name_of (keys h) n
    =
    get_or_read c.keys-key-items.result.now n c.key-item.result c.loop-key_index-test.true c.key-item.is []
    ∙ ap (λ names. name_of names n) c.keys-key-items.ensures in
    let added = writes_added h n c.loop-key_index.written.items c.add_key.new.written c.key-item.result c.loop-key_index.invariant within is
    (rw (c.deref_mut.ensures.value, c.writers.ensures) at c.in_ok-add_key.ensures) in
    let long : length c.add_key.new.written ≡ c.loop-key_index.written.len
    = added.long ∙ sym c.loop-key_index.invariant.long ∙ sym (ap length c.deref_mut.ensures.value) ∙ c.deref_mut.ensures.len in
    rw (take_at c.add_key.new.written _ c.loop-key_index.written.len long) added
