use Rattle.std.proofs.Common.{◌≡◌, [], length, refl, rules, ◌∙◌}
use Rattle.std.specs.declared.alloc.AllocError.{AllocError}
use Rattle.tcc_near.specs.private.ClockRows.{AreLasts}
use Rattle.tcc_near.proofs.RowLemmas.{each_given, numbers_below}
use Rattle.tcc_near.proofs.vector_clocks.all_lasts.Goals as goal
use Rattle.tcc_txn.proofs.Lists.{matched}

pub collect-requires-clause-ready : goal.collect-requires-clause-ready
collect-requires-clause-ready g c κs within =
    let ends = c.into_par_iter.ensures in
    rw (c.map.ensures.base, c.map.ensures.f, ends.0, ends.1) (λ k d lt. (c.requires, λ y p. tt))

pub returns : goal.returns
returns g c =
    let n = length c.args.graph.now.sessions in
    let gave = c.in_ok-collect.ensures in
    let chain = gave.1 in
    let f = c.map.result.f in
    let starts : c.map.result.base.start ≡ 0 = rw c.map.ensures.base c.into_par_iter.ensures.0 in
    let ends : c.map.result.base.end ≡ n = rw c.map.ensures.base (c.into_par_iter.ensures.1 ∙ search rules) in
    let numbers = chain.1 ∙ numbers_below _ _ n starts ends in
    let graph : f.1 ≡ c.args.graph = rw c.map.ensures.f refl in
    matched c.in_ok-collect.field-0 _ _ _ gave.2 (λ v made.
    let given = each_given AllocError (AreLasts f.1.now) n chain.0 gave.0 v.items numbers chain.2 made in
    record { long = given.0; each = λ session of. rw (← graph) (given.1 session [] of) })
