use Rattle.std.proofs.Common.{below_more, arith}
use Rattle.tcc_least.proofs.PlaceLemmas.{better_on}
use Rattle.tcc_least.proofs.ReturnLemmas.{written_at, stale_all}
use Rattle.tcc_least.proofs.returning.stale.Goals as goal

pub stale_key-least-requires-clause-key : goal.stale_key-least-requires-clause-key
stale_key-least-requires-clause-key c =
    let writes = c.writes_at-key_index-items.result.now in
    let k = c.loop-key_index.key_index-index in (
      c.writes_at-key_index-items.ensures.within k 0 c.loop-key_index-test.true,
      written_at c.args.graph.now c.args.writer writes c.writes_at-key_index-items.ensures.value k c.requires.writer.2 c.loop-key_index-test.true,
    )

pub loop-key_index-preserved : goal.loop-key_index-preserved
loop-key_index-preserved c = (
  better_on c.args.graph.now c.args.best c.loop-key_index.least c.stale_key-least.result c.loop-key_index.invariant.0 c.stale_key-least.ensures.more,
  below_more _ _
      (λ k less a d against pair read. c.stale_key-least.ensures.more.kept _ _ (c.loop-key_index.invariant.1 k less a d against pair read))
      c.stale_key-least.ensures.found,
)

pub returns-clause-found : goal.returns-clause-found
returns-clause-found c =
    stale_all c.args.graph.now c.args.writer c.writes_at-key_index-items.result.now c.writes_at-key_index-items.ensures.value
    c.loop-key_index.key_index-index c.loop-key_index.least c.requires.writer.0 (omega (arith, c.loop-key_index-test.false)) c.loop-key_index.invariant.1
