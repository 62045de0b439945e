use Rattle.std.proofs.Common.{◌∙◌, refl, slice_index, arith}
use Rattle.std.proofs.lemmas.List.{take_all}
use Rattle.tcc_order.proofs.Needing.{lifted_none, lifted_more}
use Rattle.tcc_order.proofs.causal_links.lift_each.Goals as goal

pub loop-writer-init : goal.loop-writer-init
loop-writer-init c =
    (refl, λ k l. lifted_none c.args.owners.now c.args.from c.args.clock.now c.args.writers.now c.args.a k (slice_index c.args.need.now k))

pub loop-writer-preserved : goal.loop-writer-preserved
loop-writer-preserved c =
    let inv = c.loop-writer.invariant in
    let new = c.lift_writer.ensures in (
      new.same ∙ inv.0,
      λ k l. rw (new.each k (omega (arith, inv.0)))
          (lifted_more c.args.owners.now c.args.from c.args.clock.now c.args.writers.now c.args.a k c.loop-writer.writer-index c.loop-writer-test.true
          (slice_index c.args.need.now k) (slice_index c.loop-writer.need k) (inv.1 k l)),
    )

pub returns-clause-each : goal.returns-clause-each
returns-clause-each c = rw (take_all c.loop-writer.writer-index c.args.writers.now c.loop-writer-test.false) at c.loop-writer.invariant.1
