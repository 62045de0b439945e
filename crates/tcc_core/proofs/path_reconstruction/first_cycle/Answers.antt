use Rattle.std.proofs.Common.{◌≡◌, length, arith}
use Rattle.tcc_reads.specs.History.{count}
use Rattle.tcc_graph.proofs.Linking.{some_cost}
use Rattle.tcc_core.proofs.WayLemmas.{under_way, left_of, never_stuck, one_more, all_picked, all_paid}
use Rattle.tcc_core.proofs.path_reconstruction.first_cycle.Goals as goal

pub unreachable-requires : goal.unreachable-requires
unreachable-requires c =
    let long : length c.args.prices.now.prices ≡ count c.args.graph.now = c.requires.prices.prices.long in
    never_stuck c.requires.prices c.requires.back c.loop-left.invariant c.loop-left-test.true
    (λ u d above l before. c.in_default.ensures u d above (omega arith) before)

pub loop-left-init : goal.loop-left-init
loop-left-init c = rw c.new-picked.ensures.items (under_way c.requires.prices c.requires.back)

pub loop-left-smaller : goal.loop-left-smaller
loop-left-smaller c =
    let long : length c.args.prices.now.prices ≡ count c.args.graph.now = c.requires.prices.prices.long in
    let (above, below, before, lowest) = c.in-Some.ensures in
    let first = rw c.in-Some-2.is at c.in_ok-link.ensures in
    let left = left_of c.requires.prices c.requires.back c.loop-left.invariant above (omega arith) before lowest first in
    omega (arith, some_cost c.in-Some-2.link, left)

pub loop-left-preserved : goal.loop-left-preserved
loop-left-preserved c =
    let long : length c.args.prices.now.prices ≡ count c.args.graph.now = c.requires.prices.prices.long in
    let (above, below, before, lowest) = c.in-Some.ensures in
    let first = rw c.in-Some-2.is at c.in_ok-link.ensures in
    rw c.in_ok-push.ensures.items (one_more c.requires.prices c.requires.back c.loop-left.invariant above (omega arith) before lowest first)

pub returns-clause-first : goal.returns-clause-first
returns-clause-first c =
    rw c.reverse.ensures.items (all_picked c.requires.prices c.requires.back (rw c.loop-left-test.false at c.loop-left.invariant))

pub returns-clause-cost : goal.returns-clause-cost
returns-clause-cost c = rw c.reverse.ensures.items (all_paid c.requires.prices c.requires.back (rw c.loop-left-test.false at c.loop-left.invariant))
