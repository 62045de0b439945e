use Rattle.std.proofs.Common.{sym}
use Rattle.std.specs.Ordering.{nat_cmp}
use Rattle.tcc_least.proofs.Listed.{rises}
use Rattle.tcc_least.proofs.GroupRange.{group_rises, group_within}
use Rattle.tcc_least.proofs.returning.is_read_later.Goals as goal

pub count_below-start-requires : goal.count_below-start-requires
count_below-start-requires c = rises c.args.sources.now c.args.readers.now 0 c.requires.long nat_cmp c.requires.order

pub count_up_to-stop-requires : goal.count_up_to-stop-requires
count_up_to-stop-requires c = rises c.args.sources.now c.args.readers.now 0 c.requires.long nat_cmp c.requires.order

pub first_within-requires : goal.first_within-requires
first_within-requires c =
    group_rises c.args.sources.now c.args.readers.now c.args.source c.count_below-start.result c.count_up_to-stop.result c.requires.long c.requires.order
    c.count_below-start.ensures.bound c.count_up_to-stop.ensures.bound c.count_below-start.ensures.point c.count_up_to-stop.ensures.point

pub returns : goal.returns
returns c =
    group_within c.args.sources.now c.args.readers.now c.args.source c.count_below-start.result c.count_up_to-stop.result c.requires.long c.requires.order
    c.count_below-start.ensures.bound c.count_up_to-stop.ensures.bound c.count_below-start.ensures.point c.count_up_to-stop.ensures.point c.args.writer
    c.args.end (λ same. c.if-source-writer.false (sym same)) c.first_within.result c.first_within.ensures c.is_some.result c.is_some.ensures
