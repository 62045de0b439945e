use Rattle.std.proofs.Common.{ap, ◌∙◌}
use Rattle.tcc_lanes.specs.private.Stretches.{prices_in}
use Rattle.tcc_lanes.proofs.StretchLemmas.{left_first, left_here, left_more, left_none}
use Rattle.tcc_lanes.proofs.stretches.PriceRow.price.Goals as goal

pub loop-stretch-init : goal.loop-stretch-init
loop-stretch-init c =
    left_first c.args.self.now c.args.column c.deref-stretch-items.result.now (ap prices_in c.deref-stretch-items.ensures.value ∙ c.self.view_is) c.requires

pub returns-then-left-stretch : goal.returns-then-left-stretch
returns-then-left-stretch c =
    left_here c.args.self.now c.args.column c.deref-stretch-items.result.now c.loop-stretch.stretch-index c.loop-stretch.left c.loop-stretch-test.true
    c.loop-stretch.invariant c.if-left-stretch.true

pub loop-stretch-preserved : goal.loop-stretch-preserved
loop-stretch-preserved c =
    left_more c.args.self.now c.args.column c.deref-stretch-items.result.now c.loop-stretch.stretch-index c.loop-stretch.left c.loop-stretch-test.true
    c.loop-stretch.invariant c.if-left-stretch.false

pub unreachable-requires : goal.unreachable-requires
unreachable-requires c =
    left_none c.args.self.now c.args.column c.deref-stretch-items.result.now c.loop-stretch.stretch-index c.loop-stretch.left c.loop-stretch-test.false
    c.loop-stretch.invariant
