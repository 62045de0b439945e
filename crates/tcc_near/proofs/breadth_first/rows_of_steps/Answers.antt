use Rattle.std.proofs.Common.{◌≡◌, ◌<◌, [], ◌∙◌, refl, arith}
use Rattle.rayon.proofs.ToStd.{nat_range-All}
use Rattle.std.specs.declared.alloc.AllocError.{AllocError}
use Rattle.tcc_reads.specs.History.{count}
use Rattle.tcc_graph.specs.Levels.{atomically}
use Rattle.tcc_near.specs.private.Breadth.{ArePairs, HasLengths}
use Rattle.tcc_near.proofs.RowLemmas.{each_given, numbers_below}
use Rattle.tcc_near.proofs.breadth_first.rows_of_steps.Goals as goal
use Rattle.tcc_txn.proofs.Lists.{matched}

pub collect-requires-clause-ready : goal.collect-requires-clause-ready
collect-requires-clause-ready g c κs within =
    let h = c.args.pairs.now.history in
    let ends = c.into_par_iter.ensures in
    let inside =
    nat_range-All (λ i. ArePairs c.args.pairs.now × (i < count h)) 0 c.count.result (λ i low high. (c.requires, omega (arith, high, c.count.ensures))) in
    rw (c.with_min_len.ensures.base, c.map.ensures.base, c.map.ensures.f, ends.0, ends.1) (λ k d lt. (inside k d lt, λ y p. tt))

pub returns : goal.returns
returns g c =
    let n = c.count.result in
    let gave = c.in_ok-collect.ensures in
    let chain = gave.1 in
    let f = c.with_min_len.result.base.f in
    let starts : c.with_min_len.result.base.base.start ≡ 0 = rw (c.with_min_len.ensures.base, c.map.ensures.base) c.into_par_iter.ensures.0 in
    let ends : c.with_min_len.result.base.base.end ≡ n = rw (c.with_min_len.ensures.base, c.map.ensures.base) c.into_par_iter.ensures.1 in
    let numbers = chain.1 ∙ numbers_below _ _ n starts ends in
    let pairs : f.1 ≡ c.args.pairs = rw (c.with_min_len.ensures.base, c.map.ensures.f) refl in
    matched c.in_ok-collect.field-0 _ _ _ gave.2 (λ v made.
    let each =
    each_given AllocError (HasLengths (atomically f.1.now.history)) n chain.0 gave.0 v.items numbers chain.2 made in
    record { long = each.0 ∙ c.count.ensures; each = λ a l. rw (← pairs) (each.1 a [] (omega (arith, l, c.count.ensures))) })
