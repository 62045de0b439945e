use Rattle.std.proofs.Common.{inl, inr, arith}
use Rattle.tcc_order.proofs.Rising.{but_lower, but_other}
use Rattle.tcc_order.proofs.causal_links.last_but.Goals as goal

pub returns-then-a-gt0 : goal.returns-then-a-gt0
returns-then-a-gt0 c =
    but_lower c.args.numbers.now c.args.top c.args.a c.last_up_to-last.result c.last_up_to.result c.last_up_to-last.ensures c.if-last-a.true
    (omega (arith, c.if-a-gt0.true)) c.last_up_to.ensures

pub returns : goal.returns
returns c =
    but_other c.args.numbers.now c.args.top c.args.a c.last_up_to-last.result c.last_up_to-last.ensures (λ same some. elim c.else-last-a.either [
      | inl w ↦ omega (arith, w.1, some)
      | inr other ↦ other same
    ])
