use Rattle.std.specs.Ordering.{nat_cmp}
use Rattle.tcc_least.proofs.Listed.{rises}
use Rattle.tcc_least.proofs.GroupRange.{group_rises, in_group, from_group}
use Rattle.tcc_first.proofs.ranges.readers_of.Goals as goal

pub count_below-start-requires : goal.count_below-start-requires
count_below-start-requires c = rises c.args.sources.now c.args.readers.now 0 c.requires.long nat_cmp c.requires.order

pub count_up_to-stop-requires : goal.count_up_to-stop-requires
count_up_to-stop-requires c = rises c.args.sources.now c.args.readers.now 0 c.requires.long nat_cmp c.requires.order

pub returns-clause-rising : goal.returns-clause-rising
returns-clause-rising c =
    group_rises c.args.sources.now c.args.readers.now c.args.source c.count_below-start.result c.count_up_to-stop.result c.requires.long c.requires.order
    c.count_below-start.ensures.bound c.count_up_to-stop.ensures.bound c.count_below-start.ensures.point c.count_up_to-stop.ensures.point

pub returns-clause-each : goal.returns-clause-each
returns-clause-each c = λ d. (
  from_group c.args.sources.now c.args.readers.now c.args.source c.count_below-start.result c.count_up_to-stop.result c.requires.long c.requires.order
      c.count_below-start.ensures.bound c.count_up_to-stop.ensures.bound c.count_below-start.ensures.point c.count_up_to-stop.ensures.point d,
  in_group c.args.sources.now c.args.readers.now c.args.source c.count_below-start.result c.count_up_to-stop.result c.requires.long c.requires.order
      c.count_below-start.ensures.bound c.count_up_to-stop.ensures.bound c.count_below-start.ensures.point c.count_up_to-stop.ensures.point d,
)
