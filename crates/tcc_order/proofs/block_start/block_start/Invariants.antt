use Rattle.tcc_order.specs.private.News.{NoneBefore}
use Rattle.tcc_order.proofs.block_start.block_start.Given as goal

abbrev pub invariant-loop-position : goal.invariant-loop-position
invariant-loop-position l = NoneBefore l.owners l.from l.order l.position
