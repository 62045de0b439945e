use Rattle.std.proofs.Common.{Some, ap, arith, ◌∙◌}
use Rattle.tcc_watch_run.proofs.FollowingLemmas.{all_more, one_fits, one_more}
use Rattle.tcc_watch_run.proofs.following.Follower.take_from.Goals as goal

pub take-requires-clause-fits : goal.take-requires-clause-fits
take-requires-clause-fits c =
    one_fits c.args.self.now c.loop-index.self c.args.snapshot.now c.args.i c.args.name c.requires.named
    c.in_ok-to_txn.field-0 c.loop-index.index c.loop-index.invariant.0 c.loop-index.invariant.1
    (ap Some c.in_ok-to_txn.ensures ∙ c.in-Some.ensures) c.requires.fits

pub loop-index-preserved : goal.loop-index-preserved
loop-index-preserved c =
    one_more c.args.self.now c.loop-index.self c.args.snapshot.now c.args.i c.args.name c.requires.named
    c.in_ok-to_txn.field-0 c.loop-index.index c.loop-index.invariant.0 c.loop-index.invariant.1
    (ap Some c.in_ok-to_txn.ensures ∙ c.in-Some.ensures) c.take.new.self c.in_ok-take.ensures

pub returns : goal.returns
returns c =
    let w = c.loop-index.invariant in
    record {
      on = w.0;
      all = all_more c.args.self.now c.loop-index.self c.args.snapshot.now c.args.i c.args.name c.requires.named
          c.loop-index.index w.0 w.1 (omega (arith, c.loop-index-test.false, c.finished-index-end.ensures.value));
    }
