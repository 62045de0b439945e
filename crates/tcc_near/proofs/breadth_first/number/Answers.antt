use Rattle.std.proofs.Common.{◌≡◌, get_or, take, arith}
use Rattle.std.proofs.lemmas.List.{length-set, take_all}
use Rattle.tcc_near.proofs.FreshLemmas.{numbered_one}
use Rattle.tcc_near.proofs.breadth_first.number.Goals as goal

pub loop-number-preserved : goal.loop-number-preserved
loop-number-preserved c =
    let steps = c.args.steps.now in
    let fresh = c.args.fresh.now in
    let n = c.loop-number.number-index in
    numbered_one steps c.loop-number.steps fresh n c.args.distance c.loop-number.invariant c.loop-number-test.true c.requires.walk
    (c.requires.new n 0 c.loop-number-test.true) (length-set c.loop-number.steps (get_or fresh n 0) c.args.distance)

pub returns : goal.returns
returns c =
    let inv = c.loop-number.invariant in
    let fresh = c.args.fresh.now in
    let whole : take c.loop-number.number-index fresh ≡ fresh = take_all c.loop-number.number-index fresh c.loop-number-test.false in
    record {
      each = λ b h. inv.each b (rw whole h);
      others = λ b h. inv.others b (λ t. h (rw whole at t));
      fewer = λ some. inv.fewer (omega (arith, c.loop-number-test.false));
    }
