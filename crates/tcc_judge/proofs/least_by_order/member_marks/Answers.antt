use Rattle.tcc_judge.proofs.NearMembers.{all_ends, marked_members, sources_inside, sources_some, targets_ascend, targets_inside, targets_some}
use Rattle.tcc_judge.proofs.least_by_order.member_marks.Goals as goal

pub near-requires-clause-sources : goal.near-requires-clause-sources
near-requires-clause-sources c =
    sources_inside c.args.graph.now c.args.order.now c.args.positions.now c.requires.ordered c.requires.positions c.args.found.now.lasts.items c.args.found.now.stale.items
    c.requires.found c.args.level c.args.most c.args.sources.now c.args.targets.now c.requires.sources c.requires.targets

pub near-requires-clause-committed : goal.near-requires-clause-committed
near-requires-clause-committed c =
    sources_some c.args.graph.now c.args.order.now c.args.positions.now c.requires.ordered c.requires.positions c.args.found.now.lasts.items c.args.found.now.stale.items
    c.requires.found c.args.level c.args.most c.args.sources.now c.args.targets.now c.requires.sources c.requires.targets

pub near-requires-clause-targets : goal.near-requires-clause-targets
near-requires-clause-targets c =
    targets_inside c.args.graph.now c.args.order.now c.args.positions.now c.requires.ordered c.requires.positions c.args.found.now.lasts.items c.args.found.now.stale.items
    c.requires.found c.args.level c.args.most c.args.sources.now c.args.targets.now c.requires.sources c.requires.targets

pub near-requires-clause-some : goal.near-requires-clause-some
near-requires-clause-some c =
    targets_some c.args.graph.now c.args.order.now c.args.positions.now c.requires.ordered c.requires.positions c.args.found.now.lasts.items c.args.found.now.stale.items
    c.requires.found c.args.level c.args.most c.args.sources.now c.args.targets.now c.requires.sources c.requires.targets

pub near-requires-clause-ascending : goal.near-requires-clause-ascending
near-requires-clause-ascending c =
    targets_ascend c.args.graph.now c.args.order.now c.args.positions.now c.requires.ordered c.requires.positions c.args.found.now.lasts.items c.args.found.now.stale.items
    c.requires.found c.args.level c.args.most c.args.sources.now c.args.targets.now c.requires.sources c.requires.targets

pub near-requires-clause-ends : goal.near-requires-clause-ends
near-requires-clause-ends c =
    all_ends c.args.graph.now c.args.order.now c.args.positions.now c.requires.ordered c.requires.positions c.args.found.now.lasts.items c.args.found.now.stale.items
    c.requires.found c.args.level c.args.most c.args.sources.now c.args.targets.now c.requires.sources c.requires.targets

pub returns : goal.returns
returns c =
    let found = c.args.found.now in
    marked_members c.args.graph.now c.args.order.now c.args.positions.now c.requires.ordered c.requires.positions found.lasts.items found.stale.items
    c.requires.found c.args.level c.args.most c.in_ok-marks.marks.items c.in_ok-near.near.items c.in_ok-both.both.items
    (rw (c.count.ensures.value, c.deref.ensures.value) at c.in_ok-marks.ensures) c.in_ok-near.ensures
    (rw (c.deref-2.ensures.value, c.deref-3.ensures.value) at c.in_ok-both.ensures)
