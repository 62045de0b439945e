use Rattle.std.proofs.Common.{rules, ◌≡◌, Some, None, sym, ◌∙◌, arith}
use Rattle.std.specs.Prelude.{slice_get}
use Rattle.std.specs.FinMap.{entries, get-entries, len-entries}
use Rattle.tcc_book.proofs.Agreed.{found-here, none-past, unfound-all, unfound-more}
use Rattle.tcc_book.proofs.agreement.found.Goals as goal

pub returns-then-eq : goal.returns-then-eq
returns-then-eq c =
    let here : slice_get (entries c.args.copy.now) c.loop-i.i ≡ Some (c.in-Some.name.now, c.in-Some.txns.now) = search rules in
    let alike = sym c.eq.ensures ∙ c.if-eq.true in
    sym (get-entries c.args.copy.now c.args.session.now
    ∙ found-here c.args.session.now (entries c.args.copy.now) c.loop-i.i c.in-Some.name.now c.in-Some.txns.now c.loop-i.invariant here alike)

pub loop-i-preserved : goal.loop-i-preserved
loop-i-preserved c =
    let here : slice_get (entries c.args.copy.now) c.loop-i.i ≡ Some (c.in-Some.name.now, c.in-Some.txns.now) = search rules in
    let other = sym c.eq.ensures ∙ c.if-eq.false in
    unfound-more c.args.session.now (entries c.args.copy.now) c.loop-i.i c.in-Some.name.now c.in-Some.txns.now c.loop-i.invariant here other

pub returns-in_default : goal.returns-in_default
returns-in_default c =
    let past : slice_get (entries c.args.copy.now) c.loop-i.i ≡ None = search rules in
    sym (get-entries c.args.copy.now c.args.session.now
    ∙ unfound-all c.args.session.now (entries c.args.copy.now) c.loop-i.i c.loop-i.invariant (none-past (entries c.args.copy.now) c.loop-i.i past))

pub returns : goal.returns
returns c =
    sym (get-entries c.args.copy.now c.args.session.now
    ∙ unfound-all c.args.session.now (entries c.args.copy.now) c.loop-i.i c.loop-i.invariant
    (omega (arith, c.sessions-i-end.ensures.value, len-entries c.args.copy.now, c.loop-i-test.false)))
