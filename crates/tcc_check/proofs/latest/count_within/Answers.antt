use Rattle.std.proofs.Common.{rules}
use Rattle.std.proofs.lemmas.List.Sorted.{IsPartitionPoint-from_clause}
use Rattle.tcc_check.specs.private.Latest.{is_within}
use Rattle.tcc_check.proofs.Sessions.{parted_within}
use Rattle.tcc_check.proofs.latest.count_within.Goals as goal

pub returns : goal.returns
returns c =
    let h = c.args.graph.now in
    let numbers = c.args.writers.now in
    record {
      upto = c.partition_point.ensures.bound;
      point =
          IsPartitionPoint-from_clause (λ n. is_within h c.args.session c.args.place n) numbers c.partition_point.result c.partition_point.ensures.partitioned
          (parted_within h c.args.session c.args.place c.requires.numbered numbers c.requires.writers) (λ a r f' k. search rules);
    }
