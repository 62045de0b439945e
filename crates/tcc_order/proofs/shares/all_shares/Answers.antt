use Rattle.std.proofs.Common.{◌≡◌, ◌<◌, ◌+◌, ◌*◌, ◌∙◌, refl}
use Rattle.rayon.proofs.ToStd.{nat_range-All}
use Rattle.tcc_txn.specs.declared.memory.NoMemory.{NoMemory}
use Rattle.tcc_clocks.specs.declared.latest.TheConstants.{WIDE}
use Rattle.tcc_order.specs.private.CausalLinks.{AreLinksFrom}
use Rattle.tcc_order.specs.private.Sweeps.{IsSweep, Links, start_of}
use Rattle.tcc_order.proofs.ShareLemmas.{each_given, numbers_below}
use Rattle.tcc_order.proofs.shares.all_shares.Goals as goal
use Rattle.tcc_txn.proofs.Lists.{matched}

pub collect-requires-clause-ready : goal.collect-requires-clause-ready
collect-requires-clause-ready g c κs within =
    let ends = c.into_par_iter.ensures in
    let inside = nat_range-All (λ i. IsSweep c.args.sweep.now × (i < c.args.shares.now.count)) 0 c.args.shares.now.count (λ i low high. (c.requires, high)) in
    rw (c.with_min_len.ensures.base, c.map.ensures.base, c.map.ensures.f, ends.0, ends.1) (λ k d lt. (inside k d lt, λ y p. tt))

pub returns : goal.returns
returns g c =
    let h = c.args.sweep.now.graph.now in
    let s = c.args.shares.now in
    let n = c.args.shares.now.count in
    let gave = c.in_ok-collect.ensures in
    let chain = gave.1 in
    let f = c.with_min_len.result.base.f in
    let starts : c.with_min_len.result.base.base.start ≡ 0 = rw (c.with_min_len.ensures.base, c.map.ensures.base) c.into_par_iter.ensures.0 in
    let ends : c.with_min_len.result.base.base.end ≡ n = rw (c.with_min_len.ensures.base, c.map.ensures.base) c.into_par_iter.ensures.1 in
    let numbers = chain.1 ∙ numbers_below _ _ n starts ends in
    let sweep : f.2 ≡ c.args.sweep = rw (c.with_min_len.ensures.base, c.map.ensures.f) refl in
    let shares : f.0 ≡ c.args.shares = rw (c.with_min_len.ensures.base, c.map.ensures.f) refl in
    matched c.in_ok-collect.field-0 _ _ _ gave.2 (λ v made.
    let each =
    each_given NoMemory (λ share (kept : Links). AreLinksFrom f.2.now.graph.now (start_of f.0.now share * WIDE) (start_of f.0.now (share + 1) * WIDE) kept) n chain.0
    gave.0 v.items numbers chain.2 made in
    record { long = each.0; each = λ share d l. rw (← sweep, ← shares) (each.1 share d l) })
