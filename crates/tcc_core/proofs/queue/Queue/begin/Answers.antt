use Rattle.std.proofs.Common.{◌≡◌, length, replicate, inl, arith}
use Rattle.std.proofs.lemmas.List.{get_or-replicate, length-replicate}
use Rattle.tcc_core.proofs.Filing.{listed_none}
use Rattle.tcc_core.specs.declared.queue.TheConstants.{NO_WAY}
use Rattle.tcc_core.proofs.queue.Queue.begin.Goals as goal

pub invariant_of-result : goal.invariant_of-result
invariant_of-result c =
    let n = c.args.count in
    let costs = c.in_ok-costs.costs.items in
    let listed = c.in_ok-listed.listed.items in
    let all : costs ≡ replicate n NO_WAY = c.in_ok-costs.ensures.items_if_clones_equal (λ y e. e) in
    let zeros : listed ≡ replicate n 0 = c.in_ok-listed.ensures.items_if_clones_equal (λ y e. e) in
    let long : length costs ≡ n = rw all (length-replicate n NO_WAY) in
    let listed_long : length listed ≡ n = rw zeros (length-replicate n 0) in (
      record {
        long = omega (arith, long, c.in_ok-buckets.ensures.long);
        window = omega arith;
        few = omega arith;
        each =
            λ v below. inl
            (record {
              none = inl (rw all (get_or-replicate n v NO_WAY 0 (omega (arith, long, below))));
              out = c.in_ok-buckets.ensures.none v (omega (arith, long, below, c.in_ok-buckets.ensures.long));
            });
      },
      listed_none listed costs (omega (arith, long, listed_long)) (omega (arith, listed_long, c.requires))
          (λ v below. rw all (get_or-replicate n v NO_WAY 0 (omega (arith, long, below)))),
    )
