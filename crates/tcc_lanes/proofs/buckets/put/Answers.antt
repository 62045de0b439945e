use Rattle.std.proofs.Common.{[], ◌∷◌, ◌++◌, List, ℕ, set, ap, ◌∙◌, arith}
use Rattle.tcc_lanes.proofs.BucketLemmas.{put_in}
use Rattle.tcc_lanes.proofs.buckets.put.Goals as goal

pub returns : goal.returns
returns c = λ k v.
    let mid = c.grow.new.buckets.items in
    put_in c.args.buckets.now.items mid _ c.args.cost c.args.member c.index_mut.result.now c.in_ok-grow.ensures.kept (omega (arith, c.in_ok-grow.ensures.long))
    (ap (λ (r : List ℕ). set mid c.args.cost r) (c.in_ok-push.ensures.ok ∙ ap (λ (r : List ℕ). r ++ c.args.member ∷ []) c.index_mut.ensures.value)) k v
