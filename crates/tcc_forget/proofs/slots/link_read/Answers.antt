use Rattle.std.proofs.Common.{ℕ, ◌<◌, List, length, sym, subst}
use Rattle.std.specs.Prelude.{Contains}
use Rattle.tcc_watch.proofs.Settled.{if_ok}
use Rattle.tcc_forget.specs.private.Linking.{CanLink, IsDoneBy, IsOutcome, IsPassedBy, OrdersListed}
use Rattle.tcc_forget.proofs.ReadLinks.{read_inside, read_link, read_linked, read_passed}
use Rattle.tcc_forget.proofs.slots.link_read.Goals as goal

pub link_listed-requires : goal.link_listed-requires
link_listed-requires g c =
    subst (λ (z : List ℕ). CanLink g.on c.args.rows.now c.args.ats.now c.args.clock.now z c.in-Some.source) (sym c.deref.ensures.value)
    (read_link g.on c.args.rows.now c.args.ats.now c.args.clock.now c.args.read.now c.requires c.in-Some.source c.in-Some.is)

pub is_passed-requires : goal.is_passed-requires
is_passed-requires g c = record {
  slots = c.requires.linking.slots;
  clock_of = c.requires.linking.clock_of;
  inside = subst (λ (z : List ℕ). (b : ℕ) → Contains z b → b < length g.on.numbers) (sym c.deref-in-None.ensures.value)
      (read_inside g.on c.args.rows.now c.args.ats.now c.args.clock.now c.args.read.now c.requires);
}

pub returns-in-Some-clause-done : goal.returns-in-Some-clause-done
returns-in-Some-clause-done g c =
    let old = c.args.rows.now in
    let new = c.link_listed.new.rows in
    let read = c.args.read.now in
    let k : ℕ = c.in-Some.source in
    if_ok c.link_listed.result (IsOutcome g.on old new (OrdersListed g.on new c.deref.result.now k)) (IsOutcome g.on old new (IsDoneBy g.on new read))
    c.link_listed.ensures.done
    (λ done is. read_linked g.on old c.args.ats.now c.args.clock.now read c.requires k new done c.in-Some.is
    (subst (λ (z : List ℕ). IsOutcome g.on old new (OrdersListed g.on new z k) done) c.deref.ensures.value is))

pub returns-in-None-clause-done : goal.returns-in-None-clause-done
returns-in-None-clause-done g c =
    read_passed g.on c.args.rows.now c.args.ats.now c.args.clock.now c.args.read.now c.requires c.is_passed.result c.in-None.is
    (subst (λ (z : List ℕ). IsPassedBy g.on z c.is_passed.result) c.deref-in-None.ensures.value c.is_passed.ensures)
