use Rattle.tcc_watch.proofs.arrivals.Arrivals.deliver_first.Goals as goal

pub loop-index-init : goal.loop-index-init
loop-index-init c = (c.requires, λ s are. are)

pub deliver_next-requires : goal.deliver_next-requires
deliver_next-requires c = c.loop-index.invariant.0

pub loop-index-preserved : goal.loop-index-preserved
loop-index-preserved c =
    let w = c.loop-index.invariant in
    let on = c.in_ok-delivered.ensures in
    ((w.0.0, on w.0.0 w.0.1), λ s are. on s (w.1 s are))

pub returns : goal.returns
returns c = c.loop-index.invariant.1
