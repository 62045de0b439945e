use Rattle.std.proofs.Common.{refl}
use Rattle.tcc_lanes.proofs.BucketLemmas.{queued_one}
use Rattle.tcc_lanes.proofs.stretches.lower_at.Goals as goal

pub returns-clause-queued : goal.returns-clause-queued
returns-clause-queued c =
    queued_one c.args.costs.now _ c.args.buckets.now.items c.put.new.buckets.items c.args.member c.saturating_add-cost.result c.requires.inside refl c.in_ok-put.ensures
