use Rattle.std.proofs.Common.{refl, ◌∙◌, arith}
use Rattle.tcc_core.proofs.MarkedWays.{mark_in, row_nowhere, row_whole}
use Rattle.tcc_core.proofs.marked.offer_marked.Goals as goal

pub returns-then-first-marks : goal.returns-then-first-marks
returns-then-first-marks c =
    record {
      same = refl;
      floor = refl;
      met = c.requires.is_met;
      offered = row_nowhere c.args.marks.now c.args.start c.args.cost c.args.queue.now.floor c.args.queue.now.costs (omega (arith, c.if-first-marks.true));
    }

pub offer_fresh-requires-clause-within : goal.offer_fresh-requires-clause-within
offer_fresh-requires-clause-within c = λ i small one.
    c.requires.within _ (mark_in c.args.marks.now _ i c.from_bit.result small one)

pub returns : goal.returns
returns c =
    let first = c.offer_fresh.ensures in
    let then = c.offer_words.ensures in
    record {
      same = then.same ∙ first.same;
      floor = then.floor ∙ first.floor;
      met = then.met;
      offered =
          row_whole c.args.marks.now c.args.start c.args.cost c.args.queue.now.floor c.args.queue.now.costs c.offer_fresh.new.queue.costs
          c.offer_words.new.queue.costs (rw c.from_bit.ensures at first.offered) (rw first.floor at then.offered);
    }
