use Rattle.std.proofs.Common.{◌≡◌, ℕ, Option, None, Some, refl, ◌∙◌, arith}
use Rattle.std.proofs.lemmas.Grind.{common_steps}
use Rattle.tcc_core.specs.Rows.{in_row}
use Rattle.tcc_core.specs.private.Offers.{IsLower, IsOffered, IsWayOn}
use Rattle.tcc_core.proofs.Offered.{lower_same, lower_then}
use Rattle.tcc_core.proofs.Catching.{caught_none, caught_next, caught_past, caught_row}
use Rattle.tcc_core.proofs.again.lead_on_again.Goals.{in-Some, in_default}
use Rattle.tcc_core.proofs.again.lead_on_again.Goals as goal

none_here : (o : Option ℕ) → ((x : ℕ) → o ≡ Some x → ⊥) → o ≡ None
none_here None other = refl
none_here (Some x) other = absurd (other x refl)

pub loop-u-init : goal.loop-u-init
loop-u-init c = record {
  floor = refl;
  lower = lower_same c.args.frontier.now.floor c.args.frontier.now.costs;
  offered = λ j priced. caught_none c.args.prices.now c.args.start c.args.row.now c.args.cap c.args.frontier.now.floor c.args.frontier.now.costs;
}

pub loop-u-preserved : goal.loop-u-preserved
loop-u-preserved c =
    let s = c.args.start in
    let k = c.loop-u.u in
    let t = c.args.prices.now in
    let row = c.args.row.now in
    let cap = c.args.cap in
    let floor = c.args.frontier.now.floor in
    let old = c.args.frontier.now.costs in
    let mid = c.loop-u.frontier.costs in
    let inv = c.loop-u.invariant in
    elim c.match-row-u.branch [
      | in-Some w ↦
          let d = w.in-Some.so_far in
          let new = w.lead_on.new.self.costs in
          let there : in_row row k ≡ Some d = grind (arith, common_steps, w.in-Some.is) in
          let lower : IsLower floor mid new = rw inv.floor at w.lead_on.ensures.lower in
          rw w.frontier-is (record {
            floor = w.lead_on.ensures.floor ∙ inv.floor;
            lower = lower_then floor old mid new inv.lower lower;
            offered = λ j priced.
                let more : IsOffered (IsWayOn t s k d cap) floor mid new = rw inv.floor at (w.lead_on.ensures.offered j priced) in
                caught_next t s row cap floor k d old mid new there (inv.offered j priced) more;
          })
      | in_default w ↦
          let out : in_row row k ≡ None = none_here (in_row row k) w.in_default.not-Some in
          rw w.frontier-is
          (record { floor = inv.floor; lower = inv.lower; offered = λ j priced. caught_past t s row cap floor k old mid out (inv.offered j priced) })
    ]

pub returns-clause-offered : goal.returns-clause-offered
returns-clause-offered c = λ j priced.
    caught_row c.args.prices.now c.args.start c.args.row.now c.args.cap c.args.frontier.now.floor c.loop-u.u c.args.frontier.now.costs
    c.loop-u.frontier.costs (omega (arith, c.loop-u-test.false)) (c.loop-u.invariant.offered j priced)
