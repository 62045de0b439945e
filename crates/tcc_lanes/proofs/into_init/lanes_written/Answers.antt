use Rattle.std.proofs.Common.{arith, get_or}
use Rattle.tcc_lanes.proofs.IntoInit.{joined_all}
use Rattle.tcc_lanes.proofs.WordLemmas.{joined_more}
use Rattle.tcc_lanes.proofs.MarkLemmas.{written_by}
use Rattle.tcc_lanes.proofs.into_init.lanes_written.Goals as goal

pub loop-key_index-preserved : goal.loop-key_index-preserved
loop-key_index-preserved c =
    joined_more c.args.key_lanes.now (λ m. get_or c.writes_at-key_index-items.result.now m 0) c.loop-key_index.key_index-index c.loop-key_index.word c.loop-key_index.invariant

pub returns : goal.returns
returns c =
    let h = c.args.graph.now in
    let key_indices = c.writes_at-key_index-items.result.now in
    joined_all h c.args.key_lanes.now key_indices c.args.v c.writes_at-key_index-items.ensures.within
    (written_by h c.args.v key_indices c.writes_at-key_index-items.ensures.value c.writes_at-key_index-items.ensures.within c.requires.some)
    c.loop-key_index.key_index-index c.loop-key_index.word (omega (arith, c.loop-key_index-test.false)) c.loop-key_index.invariant
