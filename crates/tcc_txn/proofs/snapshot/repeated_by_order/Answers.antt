use Rattle.std.proofs.Common.{true, false, not, ap, sym, ◌∙◌}
use Rattle.tcc_txn.proofs.Repeated.{at_part, holds-more, was-there}
use Rattle.tcc_txn.proofs.snapshot.repeated_by_order.Goals as goal

pub returns-then-not-branch : goal.returns-then-not-branch
returns-then-not-branch c =
    let part = c.part-item.result in
    let i = c.loop-part.part-index in
    sym (sym c.loop-part.invariant.0
    ∙ at_part c.args.parts.now i part c.loop-part-test.true c.part-item.is true
    (ap not (sym c.if-not-branch.true)
    ∙ was-there c.args.parts.now i part c.loop-part-test.true c.part-item.is c.loop-part.names c.in_ok-insert.field-0 c.loop-part.invariant.1
    c.in_ok-insert.ensures.added))

pub loop-part-preserved : goal.loop-part-preserved
loop-part-preserved c =
    let part = c.part-item.result in
    let i = c.loop-part.part-index in (
      sym (at_part c.args.parts.now i part c.loop-part-test.true c.part-item.is false
          (ap not (sym c.if-not-branch.false)
          ∙ was-there c.args.parts.now i part c.loop-part-test.true c.part-item.is c.loop-part.names c.in_ok-insert.field-0 c.loop-part.invariant.1
          c.in_ok-insert.ensures.added))
          ∙ c.loop-part.invariant.0,
      holds-more c.args.parts.now i part c.loop-part-test.true c.part-item.is c.loop-part.names c.insert.new.self c.loop-part.invariant.1
          c.in_ok-insert.ensures.updates,
    )
