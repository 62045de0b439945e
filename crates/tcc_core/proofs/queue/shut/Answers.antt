use Rattle.std.proofs.Common.{arith}
use Rattle.tcc_core.proofs.Filing.{shut_all}
use Rattle.tcc_core.proofs.queue.shut.Goals as goal

pub returns-clause-shut : goal.returns-clause-shut
returns-clause-shut c =
    let (long, same, shut, kept) = c.loop-v.invariant in
    shut_all c.args.listed.now c.args.costs.now c.args.buckets.now c.loop-v.costs c.loop-v.buckets
    (λ k low. shut k (omega (arith, low, c.loop-v-test.false))) (λ u within. kept u (omega (arith, within, long))) c.requires.each
