use Rattle.std.proofs.Common.{◌*◌, refl, ◌∙◌, arith}
use Rattle.tcc_core.proofs.MarkedWays.{mark_at, row_none, row_next, row_all}
use Rattle.tcc_core.proofs.marked.offer_words.Goals as goal

pub loop-index-init : goal.loop-index-init
loop-index-init c = record {
  same = refl;
  floor = refl;
  met = c.requires.is_met;
  offered = row_none c.args.marks.now (c.args.from * 64) c.args.cost c.args.queue.now.floor c.args.from c.args.queue.now.costs (omega arith);
}

pub offer_fresh-requires-clause-within : goal.offer_fresh-requires-clause-within
offer_fresh-requires-clause-within c = λ i small one.
    let below = c.requires.within _ (mark_at c.args.marks.now c.loop-index.index i small one) in
    omega (arith, below, c.loop-index.invariant.offered.lower.long)

pub loop-index-preserved : goal.loop-index-preserved
loop-index-preserved c =
    let inv = c.loop-index.invariant in
    let e = c.offer_fresh.ensures in
    let old = c.args.queue.now in
    record {
      same = e.same ∙ inv.same;
      floor = e.floor ∙ inv.floor;
      met = e.met;
      offered =
          row_next c.args.marks.now (c.args.from * 64) c.args.cost old.floor c.loop-index.index old.costs c.loop-index.queue.costs
          c.offer_fresh.new.queue.costs (omega (arith, c.loop-index.auto.index)) inv.offered (rw inv.floor at e.offered);
    }

pub returns : goal.returns
returns c =
    let inv = c.loop-index.invariant in
    record {
      same = inv.same;
      floor = inv.floor;
      met = inv.met;
      offered =
          row_all c.args.marks.now (c.args.from * 64) c.args.cost c.args.queue.now.floor c.loop-index.index c.args.queue.now.costs c.loop-index.queue.costs
          (omega (arith, c.loop-index-test.false)) inv.offered;
    }
