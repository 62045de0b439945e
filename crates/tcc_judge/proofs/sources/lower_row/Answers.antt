use Rattle.std.proofs.Common.{◌≡◌, ◌<◌, ℕ, length, get_or, set, subst, arith}
use Rattle.tcc_clocks.specs.declared.latest.TheConstants.{WIDE}
use Rattle.tcc_graph.specs.Tables.{row_of}
use Rattle.tcc_judge.specs.private.NextWriters.{lowered}
use Rattle.tcc_judge.specs.private.Sources.{AreLoweredTo, gap_of}
use Rattle.tcc_judge.proofs.SourceLemmas.{lowered_to_more, lowered_to_none}
use Rattle.tcc_judge.proofs.sources.lower_row.Goals as goal

pub loop-session-init : goal.loop-session-init
loop-session-init c = lowered_to_none c.args.key_index c.args.clock.now c.args.gaps.now

pub lower-requires-clause-key : goal.lower-requires-clause-key
lower-requires-clause-key c = omega (arith, c.requires.key, c.loop-session.invariant.long)

pub lower-requires-clause-session : goal.lower-requires-clause-session
lower-requires-clause-session c = omega (arith, c.loop-session-test.true, c.requires.clock)

pub loop-session-preserved : goal.loop-session-preserved
loop-session-preserved c =
    let i = c.loop-session.session in
    let key = c.args.key_index in
    let clock = c.args.clock.now in
    let old = c.args.gaps.now in
    let table = c.loop-session.gaps in
    let inside : i < length (row_of old key) = omega (arith, c.loop-session-test.true, c.requires.clock, c.requires.wide) in
    let new : c.lower.new.self ≡ set table key (lowered (row_of table key) i (gap_of (get_or clock i 0))) = rw c.gap_of.ensures at c.in_ok-lower.ensures in
    rw new (lowered_to_more key i clock old table c.requires.key inside c.loop-session.invariant)

pub returns : goal.returns
returns c =
    let all : c.loop-session.session ≡ WIDE = omega (arith, c.requires.clock) in
    subst (λ (end : ℕ). AreLoweredTo c.args.key_index c.args.clock.now end c.args.gaps.now c.loop-session.gaps) all c.loop-session.invariant
