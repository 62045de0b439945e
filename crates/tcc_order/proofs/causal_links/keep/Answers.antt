use Rattle.std.proofs.Common.{rules, ◌≡◌, ◌∷◌, ◌++◌, ◌<◌, [], length, slice_index, arith}
use Rattle.tcc_order.proofs.Needing.{keeps_none, keeps_skip, keeps_more}
use Rattle.tcc_order.proofs.causal_links.keep.Goals as goal
use Rattle.tcc_order.proofs.causal_links.keep.Goals.{then-number-known+in_ok-push, else-number-known}

pub loop-session-init : goal.loop-session-init
loop-session-init c = keeps_none c.args.need.now c.args.clock.now c.args.run.now c.args.kept.now.items

pub loop-session-preserved : goal.loop-session-preserved
loop-session-preserved c =
    let before = c.args.run.now in
    let after = c.loop-session.run in
    let old = c.args.kept.now.items in
    let mid = c.loop-session.kept.items in
    let need = c.args.need.now in
    let clock = c.args.clock.now in
    let n = c.loop-session.session in
    let inv = c.loop-session.invariant in
    elim c.if-number-known.branch [
      | then-number-known+in_ok-push w ↦ (
          let pushed : w.push.new.self.items ≡ mid ++ slice_index need n ∷ [] = search rules in
          let inside : n < length after = omega (arith, c.loop-session-test.true, c.requires.runs, inv.same) in
          rw (w.kept-is, w.run-is, pushed) (keeps_more need clock before after old mid n inv inside (omega (arith, w.if-number-known.true)))
          )
      | else-number-known w ↦ rw (w.kept-is, w.run-is)
          (keeps_skip need clock before after old mid n inv (omega (arith, w.if-number-known.false)))
    ]

pub returns-clause-kept : goal.returns-clause-kept
returns-clause-kept c =
    let whole : c.loop-session.session ≡ length c.args.need.now = omega (arith, c.loop-session-test.false, c.loop-session.auto.session-end) in
    rw whole at c.loop-session.invariant
