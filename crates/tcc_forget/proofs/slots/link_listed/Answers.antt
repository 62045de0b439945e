use Rattle.std.proofs.Common.{ℕ, Bool, true, ◌≤◌, ◌∙◌, length, get_or, sym, subst, arith}
use Rattle.tcc_forget.specs.private.Linking.{IsOutcome, OrdersOne}
use Rattle.tcc_forget.proofs.ListedLinks.{keeps_on, listed_all, listed_more, listed_one}
use Rattle.tcc_forget.proofs.slots.link_listed.Goals as goal

pub loop-b-init : goal.loop-b-init
loop-b-init g c = record {
  between = c.requires.between;
  keeps = λ u i at_u below p. p;
  wide = c.requires.wide;
  done = λ k low. absurd (omega (arith, low));
}

pub link_one-requires : goal.link_one-requires
link_one-requires g c =
    listed_one g.on c.args.rows.now c.loop-b.rows c.args.ats.now c.args.clock.now c.args.listed.now c.args.a c.loop-b.b-index c.requires c.loop-b-test.true
    c.loop-b.invariant.between c.loop-b.invariant.wide

pub loop-b-preserved : goal.loop-b-preserved
loop-b-preserved g c =
    let i = c.loop-b.b-index in
    let listed = c.args.listed.now in
    let b : ℕ = get_or listed i 0 in
    let old = c.loop-b.rows in
    let new = c.link_one.new.rows in
    let w = c.loop-b.invariant in
    let right : IsOutcome g.on old new (OrdersOne g.on new b c.args.a) true
    = subst (λ (z : Bool). IsOutcome g.on old new (OrdersOne g.on new b c.args.a) z) c.if-not-branch.false c.in_ok-link_one.ensures.done in
    record {
      between = right.0;
      keeps = keeps_on g.on.history c.args.rows.now old new (w.between.long ∙ sym c.requires.between.long) w.keeps right.1;
      wide = c.in_ok-link_one.ensures.wide;
      done = listed_more g.on c.args.rows.now old c.args.ats.now c.args.clock.now listed c.args.a i c.requires c.loop-b-test.true w.between w.wide new right.1 right.2
          w.done;
    }

pub returns-clause-done : goal.returns-clause-done
returns-clause-done g c =
    let past : length c.args.listed.now ≤ c.loop-b.b-index = omega (arith, c.loop-b-test.false) in (
      c.loop-b.invariant.between,
      c.loop-b.invariant.keeps,
      listed_all g.on c.loop-b.rows c.args.listed.now c.args.a c.loop-b.b-index past c.loop-b.invariant.done,
    )
