use Rattle.tcc_watch.proofs.arrivals.Arrivals.deliver_all.Goals as goal

pub loop-round-init : goal.loop-round-init
loop-round-init c = (c.requires, λ s are. are)

pub deliver_first-requires : goal.deliver_first-requires
deliver_first-requires c = c.loop-round.invariant.0

pub loop-round-preserved : goal.loop-round-preserved
loop-round-preserved c =
    let w = c.loop-round.invariant in
    let on = c.in_ok-any.ensures in
    ((w.0.0, on w.0.0 w.0.1), λ s are. on s (w.1 s are))

pub returns-then-not-any : goal.returns-then-not-any
returns-then-not-any c = λ s are. c.in_ok-any.ensures s (c.loop-round.invariant.1 s are)

pub returns : goal.returns
returns c = c.loop-round.invariant.1
