use Rattle.std.proofs.Common.{◌<◌, ◌∙◌, length, sym, arith}
use Rattle.tcc_watch.proofs.Settled.{settled_cycle, settled_now, upto_true, upto_false}
use Rattle.tcc_watch.proofs.linking.settle.Goals as goal

pub returns-then-goes_to-2 : goal.returns-then-goes_to-2
returns-then-goes_to-2 g c =
    let inside : c.args.b < length c.args.closure.now = omega (arith, c.requires.from, c.requires.closure.ordered.held.long) in
    settled_cycle g.h c.args.closure.now c.args.stands.now c.args.members.now c.args.b c.args.a c.requires
    (upto_true g.h c.args.stands.now c.args.closure.now c.args.a c.args.b c.index-closure-b.result c.requires.placed c.requires.to inside
    (sym c.goes_to-2.ensures ∙ c.if-goes_to-2.true))

pub returns : goal.returns
returns g c =
    let inside : c.args.b < length c.args.closure.now = omega (arith, c.requires.from, c.requires.closure.ordered.held.long) in
    settled_now g.h c.args.closure.now c.args.stands.now c.args.members.now c.args.b c.args.a c.requires
    (upto_false g.h c.args.stands.now c.args.closure.now c.args.a c.args.b c.index-closure-b.result c.requires.placed c.requires.to inside
    (sym c.goes_to-2.ensures ∙ c.if-goes_to-2.false)) c.raise.new.rows c.in_ok-raise.ensures
