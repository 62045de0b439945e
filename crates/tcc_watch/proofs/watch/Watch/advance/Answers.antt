use Rattle.std.proofs.Common.{◌≡◌, ap, sym, subst, ◌∙◌}
use Rattle.std.specs.Prelude.{IfSome, Option}
use Rattle.tcc_txn.specs.Finished.{with_transaction}
use Rattle.tcc_txn.specs.Snapshots.{Sessions}
use Rattle.tcc_watch.specs.declared.arrivals.Arrivals.{Arrivals}
use Rattle.tcc_watch.specs.private.Arrivals.{AreArrivals}
use Rattle.tcc_watch.proofs.ArrivalLemmas.{opened}
use Rattle.tcc_watch.proofs.watch.Watch.advance.Goals as goal

pub with_arrival-requires : goal.with_arrival-requires
with_arrival-requires c =
    opened c.take.result c.self.inside.taken
    (subst (λ (z : Option Arrivals). IfSome z (AreArrivals c.self.inside.taken)) (sym c.take.ensures.value) c.self.invariant)

pub invariant_of-self : goal.invariant_of-self
invariant_of-self c = subst (λ (z : Sessions). IfSome c.self.inside.arrivals (AreArrivals z)) (sym c.in_err-add.ensures.kept) c.self.invariant

pub invariant_of-self-2 : goal.invariant_of-self-2
invariant_of-self-2 c =
    let s = c.self.inside.taken in
    let are = subst (λ (z : Option Arrivals). IfSome z (AreArrivals s)) (sym c.take.ensures.value) c.self.invariant in
    let more : with_transaction s c.args.session c.in-Ok.copy ≡ c.add.new.self
    = ap (with_transaction s c.args.session) c.in-Ok.ensures ∙ sym c.in_ok-add.ensures.added in
    subst (λ (z : Sessions). IfSome c.with_arrival.result (AreArrivals z)) more (c.with_arrival.ensures s are)

pub returns-clause-taken : goal.returns-clause-taken
returns-clause-taken c = c.in_ok-add.ensures.added ∙ ap (λ (z : Sessions). with_transaction z c.args.session c.args.txn) c.self.view_is
