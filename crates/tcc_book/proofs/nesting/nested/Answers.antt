use Rattle.std.proofs.Common.{rules, ◌≡◌, None, Some, arith}
use Rattle.std.specs.Prelude.{slice_get}
use Rattle.std.specs.FinMap.{entries, len-entries}
use Rattle.tcc_book.proofs.Agreed.{none-past}
use Rattle.tcc_book.proofs.Prefixes.{all_go_on, first_cut, one_more}
use Rattle.tcc_book.proofs.nesting.nested.Goals as goal

pub loop-i-init : goal.loop-i-init
loop-i-init c = λ k e less at. absurd (omega arith)

pub unreachable-requires : goal.unreachable-requires
unreachable-requires c =
    let past : slice_get (entries c.args.earlier.now) c.loop-i.i ≡ None = search rules in
    omega (arith, c.sessions-i-end.ensures.value, len-entries c.args.earlier.now, c.loop-i-test.true, none-past (entries c.args.earlier.now) c.loop-i.i past)

pub returns-then-not-begins_with : goal.returns-then-not-begins_with
returns-then-not-begins_with c =
    let here : slice_get (entries c.args.earlier.now) c.loop-i.i ≡ Some (c.in-Some.name.now, c.in-Some.txns.now) = search rules in
    first_cut c.args.earlier.now c.args.later.now c.loop-i.i (c.in-Some.name.now, c.in-Some.txns.now)
    (omega (arith, c.sessions-i-end.ensures.value, len-entries c.args.earlier.now, c.loop-i-test.true)) here c.list_of.result.now c.list_of.ensures
    c.loop-i.invariant
    (c.begins_with.ensures.no c.if-not-begins_with.true)

pub loop-i-preserved : goal.loop-i-preserved
loop-i-preserved c =
    let here : slice_get (entries c.args.earlier.now) c.loop-i.i ≡ Some (c.in-Some.name.now, c.in-Some.txns.now) = search rules in
    one_more c.args.earlier.now c.args.later.now c.loop-i.i (c.in-Some.name.now, c.in-Some.txns.now)
    (omega (arith, c.sessions-i-end.ensures.value, len-entries c.args.earlier.now, c.loop-i-test.true)) here c.list_of.result.now c.list_of.ensures
    c.loop-i.invariant
    (c.begins_with.ensures.yes c.if-not-begins_with.false)

pub returns : goal.returns
returns c =
    all_go_on c.args.earlier.now c.args.later.now c.loop-i.i
    (omega (arith, c.sessions-i-end.ensures.value, len-entries c.args.earlier.now, c.loop-i-test.false)) c.loop-i.invariant
