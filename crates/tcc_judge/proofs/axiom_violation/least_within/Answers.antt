use Rattle.std.proofs.Common.{◌≡◌, ℕ, length, subst, arith}
use Rattle.std.specs.Prelude.{min}
use Rattle.tcc_judge.specs.declared.least.TheConstants.{NONE}
use Rattle.tcc_judge.specs.private.Least.{IsLeastOf}
use Rattle.tcc_judge.specs.private.Behind.{IsWithin}
use Rattle.tcc_judge.proofs.BehindLemmas.{within_none, within_more, within_same}
use Rattle.tcc_judge.proofs.axiom_violation.least_within.Goals.{then-number-clock, else-number-clock}
use Rattle.tcc_judge.proofs.axiom_violation.least_within.Goals as goal

pub loop-session-init : goal.loop-session-init
loop-session-init c = record { low = omega arith; least = within_none c.args.next.now c.args.clock.now }

pub loop-session-preserved : goal.loop-session-preserved
loop-session-preserved c =
    let inv = c.loop-session.invariant in
    let none : min NONE c.loop-session.least ≡ c.loop-session.least = omega (arith, inv.low) in
    record {
      low = omega (arith, inv.low, c.min-least.ensures);
      least =
          elim c.if-number-clock.branch [
            | then-number-clock w ↦ rw (c.min-least.ensures, w.candidate-is)
                (within_more c.args.next.now c.args.clock.now c.loop-session.session c.loop-session.least w.if-number-clock.true inv.least)
            | else-number-clock w ↦ rw (c.min-least.ensures, w.candidate-is, none)
                (within_same c.args.next.now c.args.clock.now c.loop-session.session c.loop-session.least w.if-number-clock.false inv.least)
          ];
    }

pub returns : goal.returns
returns c =
    let all : c.loop-session.session ≡ length c.args.next.now = omega arith in
    subst (λ (i : ℕ). IsLeastOf (IsWithin c.args.next.now c.args.clock.now i) c.loop-session.least) all c.loop-session.invariant.least
