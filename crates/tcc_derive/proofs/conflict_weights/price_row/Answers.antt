use Rattle.std.proofs.Common.{◌≡◌, [], length, get_or, replicate, sym, ap, ◌∙◌, take_at}
use Rattle.std.proofs.lemmas.List.{length-replicate}
use Rattle.tcc_derive.proofs.LoweringLemmas.{lowers_next}
use Rattle.tcc_derive.proofs.conflict_weights.price_row.Goals as goal
use Rattle.tcc_near.specs.declared.walk_lengths.TheConstants.{NONE}

pub lower_by_key-requires-clause-sources : goal.lower_by_key-requires-clause-sources
lower_by_key-requires-clause-sources c =
    let n = length c.args.steps.now in
    let long : length c.loop-key_index.costs.items ≡ n = c.loop-key_index.invariant.long ∙ length-replicate n NONE in
    let k = get_or c.args.written.now c.loop-key_index.key_index-index 0 in
    rw (c.deref_mut.ensures.value, long) (c.requires.reads.sources k [] (c.requires.reads.inside c.loop-key_index.key_index-index 0 c.loop-key_index-test.true))

pub loop-key_index-preserved : goal.loop-key_index-preserved
loop-key_index-preserved c =
    let new = c.lower_by_key.new.nearest in
    let lowered = rw c.deref_mut.ensures.value at c.in_ok-lower_by_key.ensures in
    let long : length new ≡ c.loop-key_index.costs.len = lowered.long ∙ (sym (ap length c.deref_mut.ensures.value) ∙ c.deref_mut.ensures.len) in
    rw (take_at new _ c.loop-key_index.costs.len long)
    (lowers_next c.args.steps.now c.args.reads.now c.args.written.now c.loop-key_index.key_index-index (replicate (length c.args.steps.now) NONE)
    c.loop-key_index.costs.items new c.loop-key_index-test.true c.loop-key_index.invariant lowered)
