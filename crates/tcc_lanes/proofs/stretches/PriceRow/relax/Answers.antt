use Rattle.std.proofs.Common.{◌≤◌, ◌+◌, length, get_or, ap, ◌∙◌, arith, rules}
use Rattle.tcc_lanes.specs.private.Stretches.{prices_in}
use Rattle.tcc_lanes.proofs.BucketLemmas.{queued_more, queued_same}
use Rattle.tcc_lanes.proofs.StretchLemmas.{relaxed_all, relaxed_more, relaxed_none, room}
use Rattle.tcc_lanes.proofs.stretches.PriceRow.relax.Goals as goal

pub loop-stretch-init : goal.loop-stretch-init
loop-stretch-init c = record {
  relaxed = relaxed_none c.args.self.now c.args.costs.now c.args.level c.deref-stretch-items.result.now
      (ap prices_in c.deref-stretch-items.ensures.value ∙ c.self.view_is);
  queued = queued_same c.args.costs.now c.args.buckets.now.items;
}

pub overflow_add-end : goal.overflow_add-end
overflow_add-end c =
    let fits : c.loop-stretch.from + (get_or c.deref-stretch-items.result.now c.loop-stretch.stretch-index (record { columns = 0; price = 0 })).columns ≤ length c.args.costs.now
    = omega (
      arith,
      room c.args.self.now c.deref-stretch-items.result.now c.loop-stretch.stretch-index c.loop-stretch.from c.loop-stretch-test.true
          c.loop-stretch.invariant.relaxed.placed,
      c.requires,
    ) in
    search rules

pub lower_columns-requires-clause-end : goal.lower_columns-requires-clause-end
lower_columns-requires-clause-end c =
    omega (
      arith,
      room c.args.self.now c.deref-stretch-items.result.now c.loop-stretch.stretch-index c.loop-stretch.from c.loop-stretch-test.true
          c.loop-stretch.invariant.relaxed.placed,
      c.loop-stretch.invariant.relaxed.same,
      c.requires,
    )

pub loop-stretch-preserved : goal.loop-stretch-preserved
loop-stretch-preserved c =
    let now = c.loop-stretch in
    record {
      relaxed = relaxed_more c.args.self.now c.args.costs.now c.args.level c.deref-stretch-items.result.now now.stretch-index now.from now.costs
          c.loop-stretch-test.true now.invariant.relaxed c.lower_columns.new.costs c.lower_columns.ensures.same c.in_ok-lower_columns.ensures.each
          c.in_ok-lower_columns.ensures.rest;
      queued = queued_more c.args.costs.now now.costs c.lower_columns.new.costs c.args.buckets.now.items now.buckets.items c.lower_columns.new.buckets.items
          now.invariant.relaxed.same now.invariant.queued c.in_ok-lower_columns.ensures.queued;
    }

pub returns-clause-each : goal.returns-clause-each
returns-clause-each c =
    relaxed_all c.args.self.now c.args.costs.now c.args.level c.deref-stretch-items.result.now c.loop-stretch.stretch-index c.loop-stretch.from
    c.loop-stretch.costs c.loop-stretch-test.false c.requires c.loop-stretch.invariant.relaxed
