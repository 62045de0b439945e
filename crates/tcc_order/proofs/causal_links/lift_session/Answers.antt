use Rattle.std.proofs.Common.{arith}
use Rattle.tcc_order.proofs.Rising.{lifted_low, lifted_last, lifted_none_else}
use Rattle.tcc_order.proofs.causal_links.lift_session.Goals as goal
use Rattle.tcc_order.proofs.causal_links.lift_session.Goals.{else-last-number-via-then-last-number+else-owners-last, else-last-number-via-else-last-number}

pub returns-then-top-number : goal.returns-then-top-number
returns-then-top-number c =
    lifted_low c.args.owners.now c.args.session c.args.top c.args.writers.now c.args.a c.args.number c.if-top-number.true

pub returns-then-owners-last : goal.returns-then-owners-last
returns-then-owners-last c =
    lifted_last c.args.owners.now c.requires.ordered c.args.session c.args.top c.args.writers.now c.requires.inside c.args.a c.args.number c.last_but-last.result
    c.last_but-last.ensures c.if-top-number.false c.requires.top c.if-last-number.true c.if-owners-last.true

pub returns : goal.returns
returns c =
    lifted_none_else c.args.owners.now c.requires.ordered c.args.session c.args.top c.args.writers.now c.requires.inside c.args.a c.args.number
    c.last_but-last.result c.last_but-last.ensures c.if-top-number.false c.requires.top (λ more mine. elim c.else-last-number.branch [
      | else-last-number-via-then-last-number+else-owners-last w ↦ w.if-owners-last.false mine
      | else-last-number-via-else-last-number w ↦ omega (arith, more, w.if-last-number.false)
    ])
