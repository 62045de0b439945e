use Rattle.std.proofs.Common.{◌≡◌, ◌+◌, [], ap, ◌∙◌}
use Rattle.std.proofs.lemmas.List.{length_push}
use Rattle.tcc_lanes.proofs.BucketLemmas.{longer}
use Rattle.tcc_lanes.proofs.buckets.grow.Goals as goal

pub loop-bucket-preserved : goal.loop-bucket-preserved
loop-bucket-preserved c =
    let old = c.loop-bucket.buckets.items in
    let row : c.new.result ≡ [] = c.new.ensures ∙ c.new-empty.ensures.items in
    rw (c.in_ok-push.ensures.items, row) (record {
      long = length_push old [] ∙ ap (λ n. n + 1) c.loop-bucket.invariant.long;
      kept = λ cost. longer old cost ∙ c.loop-bucket.invariant.kept cost;
    })
