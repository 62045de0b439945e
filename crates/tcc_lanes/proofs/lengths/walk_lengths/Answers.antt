use Rattle.std.proofs.Common.{arith}
use Rattle.tcc_graph.specs.Levels.{judged}
use Rattle.tcc_txn.proofs.Lists.{whole}
use Rattle.tcc_lanes.specs.private.Lowering.{AreLowered}
use Rattle.tcc_lanes.proofs.LengthLemmas.{measured_all, measured_more, measured_none, measured_still}
use Rattle.tcc_lanes.proofs.lengths.walk_lengths.Goals as goal

pub loop-sweep-init : goal.loop-sweep-init
loop-sweep-init c =
    rw (c.in_ok-lengths.ensures.items_if_clones_equal (λ y e. e))
    (measured_none c.args.graph.now c.args.from c.args.most c.args.level _ c.count.ensures.value)

pub loop-sweep-preserved : goal.loop-sweep-preserved
loop-sweep-preserved c =
    let h = c.args.graph.now in
    let now = c.loop-sweep in
    let old = now.lengths.items in
    let new = c.lower_lengths.new.lengths in
    let lowered : AreLowered (judged h c.args.level) c.args.from c.args.most old new = rw c.deref_mut.ensures.value at c.lower_lengths.ensures.lowered in
    rw (whole new old now.lengths.len lowered.same now.lengths.ok.0)
    (measured_more h c.args.from c.args.most c.args.level now._sweep old new now.invariant lowered)

pub returns-then-not-lower_lengths : goal.returns-then-not-lower_lengths
returns-then-not-lower_lengths c =
    let h = c.args.graph.now in
    let now = c.loop-sweep in
    let old = now.lengths.items in
    let new = c.lower_lengths.new.lengths in
    let lowered : AreLowered (judged h c.args.level) c.args.from c.args.most old new = rw c.deref_mut.ensures.value at c.lower_lengths.ensures.lowered in
    rw (whole new old now.lengths.len lowered.same now.lengths.ok.0)
    (measured_all (judged h c.args.level) c.args.from c.args.most c.args.most new (omega arith)
    (measured_still h c.args.from c.args.most c.args.level now._sweep old new now.invariant lowered
    (rw c.deref_mut.ensures.value at c.lower_lengths.ensures.still c.if-not-lower_lengths.true)))

pub returns : goal.returns
returns c =
    measured_all (judged c.args.graph.now c.args.level) c.args.from c.args.most c.loop-sweep._sweep c.loop-sweep.lengths.items (omega (arith, c.loop-sweep-test.false))
    c.loop-sweep.invariant
