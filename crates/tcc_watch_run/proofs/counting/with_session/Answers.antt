use Rattle.std.proofs.Common.{ap, arith, cond, sym, ◌+◌, ◌∙◌}
use Rattle.std.proofs.lemmas.List.{take_all}
use Rattle.tcc_txn.specs.Snapshots.{finished_at}
use Rattle.tcc_watch_run.proofs.Committed.{size, size-more}
use Rattle.tcc_watch_run.proofs.counting.with_session.Goals as goal

pub loop-index-preserved : goal.loop-index-preserved
loop-index-preserved c =
    omega (
      arith,
      c.in_ok-all.ensures.more ∙ ap (λ b. c.loop-index.all + cond b 1 0) c.committed.ensures,
      c.loop-index.invariant,
      size-more (finished_at c.args.snapshot.now c.args.i) c.loop-index.index c.in-Some.recorded (sym c.in-Some.ensures),
    )

pub returns : goal.returns
returns c =
    c.loop-index.invariant
    ∙ ap (λ txns. c.args.before + size txns)
    (take_all c.loop-index.index (finished_at c.args.snapshot.now c.args.i) (omega (arith, c.loop-index-test.false, c.finished-index-end.ensures.value)))
