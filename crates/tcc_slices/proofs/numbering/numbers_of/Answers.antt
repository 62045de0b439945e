use Rattle.std.proofs.Common.{arith}
use Rattle.tcc_slices.proofs.NumberLists.{numbered_all, numbered_push, numbered_skip}
use Rattle.tcc_slices.proofs.numbering.numbers_of.Goals as goal
use Rattle.tcc_slices.proofs.numbering.numbers_of.Goals.{then-one-last+in_ok-push-2, else-one-last}

pub loop-one-preserved : goal.loop-one-preserved
loop-one-preserved c =
    elim c.if-one-last.branch [
      | then-one-last+in_ok-push-2 w ↦
          rw (w.last-is, w.numbers-is, w.in_ok-push-2.ensures.items)
          (numbered_push c.args.needs.now c.loop-one.numbers.items c.loop-one.last c.loop-one.one-index c.one-item.result c.requires c.loop-one-test.true
          c.one-item.is c.loop-one.invariant w.if-one-last.true)
      | else-one-last w ↦
          rw (w.last-is, w.numbers-is)
          (numbered_skip c.args.needs.now c.loop-one.numbers.items c.loop-one.last c.loop-one.one-index c.one-item.result c.requires c.loop-one-test.true
          c.one-item.is c.loop-one.invariant w.if-one-last.false)
    ]

pub returns-clause-all : goal.returns-clause-all
returns-clause-all c =
    numbered_all c.args.needs.now c.loop-one.numbers.items c.loop-one.last c.loop-one.one-index (omega (arith, c.loop-one-test.false)) c.loop-one.invariant
