use Rattle.std.proofs.Common.{sym}
use Rattle.tcc_watch.proofs.gaps.are_gaps.Goals as goal

pub returns-then-waits_for_nothing : goal.returns-then-waits_for_nothing
returns-then-waits_for_nothing c is = (
  c.loop-index.index,
  c.index-lines-index.result,
  c.loop-index-test.true,
  sym c.index-lines-index.is,
  c.waits_for_nothing.ensures c.if-waits_for_nothing.true,
)
