use Rattle.std.proofs.Common.{ℕ, ◌≡◌, ◌<◌, ◌≢◌, get_or, sym, subst, arith, ◌∙◌}
use Rattle.std.proofs.lemmas.Bool.{iff_false}
use Rattle.tcc_graph.specs.declared.level.Level.TheVariants.{Causal}
use Rattle.tcc_cert.specs.OrderRules.{MayReach}
use Rattle.tcc_check.proofs.Sessions.{next_more}
use Rattle.tcc_check.proofs.latest.reached_before.Goals as goal
use Rattle.tcc_check.proofs.latest.reached_before.Goals.{else-writer-source-via-then-writer-source+then-positions-source+else-may_reach}
use Rattle.tcc_check.proofs.latest.reached_before.Goals.{else-writer-source-via-then-writer-source+else-positions-source}
use Rattle.tcc_check.proofs.latest.reached_before.Goals.{else-writer-source-via-else-writer-source}

pub loop-writer-init : goal.loop-writer-init
loop-writer-init c = λ k d l. absurd (omega arith)

pub loop-writer-preserved : goal.loop-writer-preserved
loop-writer-preserved c =
    let h = c.args.graph.now in
    next_more (λ (b : ℕ). b ≢ c.args.source → MayReach h Causal c.args.clocks.now b c.args.c
    → get_or c.args.positions.now b 0 < get_or c.args.positions.now c.args.source 0) c.args.writers.now c.loop-writer.writer-index 0 c.loop-writer-test.true
    c.loop-writer.invariant
    (elim c.else-writer-source.branch [
      | else-writer-source-via-then-writer-source+then-positions-source+else-may_reach w ↦
          (λ other p. absurd (iff_false w.may_reach.ensures w.if-may_reach.false p))
      | else-writer-source-via-then-writer-source+else-positions-source w ↦ (λ other p. w.if-positions-source.false)
      | else-writer-source-via-else-writer-source w ↦ (λ other p. absurd (other w.if-writer-source.false))
    ])

pub returns : goal.returns
returns c = λ t b w other p.
    let here : get_or c.args.writers.now w.0 b ≡ b = w.2 in
    subst (λ (n : ℕ). get_or c.args.positions.now n 0 < get_or c.args.positions.now c.args.source 0) here
    (c.loop-writer.invariant w.0 b (omega (arith, w.1, c.loop-writer-test.false)) (λ e. other (sym here ∙ e))
    (subst (λ (n : ℕ). MayReach c.args.graph.now Causal c.args.clocks.now n c.args.c) (sym here) p))
