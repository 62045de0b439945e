-- No transaction comes after the last place.
use Rattle.std.proofs.Common.{◌*◌, length, refl, arith}
use Rattle.tcc_judge.specs.private.NextWriters.{AreNextWriters}
use Rattle.tcc_judge.proofs.BlockLemmas.{still_ready}
use Rattle.tcc_judge.proofs.NextLemmas.{next_none}
use Rattle.tcc_judge.proofs.blocks.Block.begin.Goals as goal

pub returns-clause-at : goal.returns-clause-at
returns-clause-at c =
    let h = c.args.graph.now in
    let order = c.args.order.now in
    let from = c.args.number * 64 in
    let ready = c.requires.ready in
    let next : AreNextWriters h order from (length order) c.clear.new.self
    = rw c.clear.ensures (next_none h order from (length order) (length c.args.self.now.next) ready.next_long (omega arith)) in
    record {
      ready = still_ready h order c.args.self.now _ ready refl refl c.in_ok-find_clocks.ensures.long next.long;
      clocks = c.in_ok-find_clocks.ensures;
      next = next;
    }
