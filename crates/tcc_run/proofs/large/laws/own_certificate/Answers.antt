use Rattle.tcc_run.proofs.Own.{claim_keeps, claim_said}
use Rattle.tcc_run.proofs.large.laws.own_certificate.Goals as goal

pub returns : goal.returns
returns c = λ options claim said is.
    let h = c.args.graph.now in
    let rules = claim_keeps h c.own_order.ensures c.own_cycle.ensures c.own_short.ensures options claim said is in
    (claim, claim_said options h claim said is, rules, c.kept.ensures h claim rules)
