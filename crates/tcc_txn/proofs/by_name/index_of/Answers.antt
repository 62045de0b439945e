use Rattle.std.proofs.Common.{rules, sym, arith}
use Rattle.std.proofs.lemmas.Fn.{always_returns_same}
use Rattle.std.specs.Ordering.{is_lt}
use Rattle.tcc_txn.proofs.Growing.{index_in-is, sorted-before}
use Rattle.tcc_txn.proofs.SortedParts.{name_cmp}
use Rattle.tcc_txn.proofs.by_name.index_of.Goals as goal

pub returns : goal.returns
returns g c =
    let parts = c.args.parts.now in
    let session = c.args.session.now in
    let point = c.partition_point.ensures.partitioned (λ part. is_lt (name_cmp part.0 session)) (always_returns_same _ _ _ (λ a r f k. search (rules)))
    (λ i j d order within before. sorted-before parts session i j d c.requires order within before) in
    sym (index_in-is session parts c.partition_point.result c.partition_point.ensures.bound
    (λ k d less. point.0 k d (omega arith) less) (λ d within. point.1 c.partition_point.result d (omega arith) within))
