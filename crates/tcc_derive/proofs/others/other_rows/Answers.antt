use Rattle.std.proofs.Common.{ℕ, ◌<◌, ◌≤◌, ◌≡◌, List, [], length, refl, ◌∙◌, arith}
use Rattle.rayon.proofs.ToStd.{nat_range-All}
use Rattle.tcc_reads.specs.History.{count}
use Rattle.tcc_txn.specs.declared.limits.TheConstants.{MAX_COUNT}
use Rattle.tcc_txn.specs.declared.memory.NoMemory.{NoMemory}
use Rattle.tcc_txn.proofs.Lists.{matched}
use Rattle.tcc_graph.specs.Tables.{row_of}
use Rattle.tcc_near.proofs.RowLemmas.{each_given, numbers_below}
use Rattle.tcc_derive.specs.private.Others.{IsOtherRow}
use Rattle.tcc_derive.proofs.others.other_rows.Goals as goal

pub collect-requires-clause-ready : goal.collect-requires-clause-ready
collect-requires-clause-ready g c κs within =
    let h = c.args.graph.now in
    let prices = c.args.prices.now in
    let rows = c.args.near.now.rows in
    let ends = c.into_par_iter.ensures in
    let ready =
    nat_range-All (λ u. (u < length prices) × (u < length rows) × (u < count h) × (count h ≤ MAX_COUNT) × (length (row_of prices u) ≡ count h)
    × (length (row_of rows u) ≡ count h)) 0 c.count.result
    (λ u low high.
    let from : u < count h = omega (arith, c.count.ensures.value) in
    let low : u < length rows = omega (arith, from, c.requires.near.long) in (
      omega (arith, c.requires.prices.long),
      low,
      from,
      omega (arith, c.count.ensures.value, c.count.ensures.few),
      c.requires.prices.each u from,
      c.requires.near.wide u [] low,
    )) in
    rw (c.with_min_len.ensures.base, c.map.ensures.base, c.map.ensures.f, ends.0, ends.1) (λ k d lt. (ready k d lt, λ y p. tt))

pub returns : goal.returns
returns g c =
    let got = c.in_ok-collect.ensures in
    let chain = got.1 in
    let n = c.count.result in
    let f = c.with_min_len.result.base.f in
    let starts : c.with_min_len.result.base.base.start ≡ 0 = rw (c.with_min_len.ensures.base, c.map.ensures.base) c.into_par_iter.ensures.0 in
    let ends : c.with_min_len.result.base.base.end ≡ n = rw (c.with_min_len.ensures.base, c.map.ensures.base) c.into_par_iter.ensures.1 in
    let numbers = chain.1 ∙ numbers_below _ _ n starts ends in
    let near : f.0 ≡ c.args.near = rw (c.with_min_len.ensures.base, c.map.ensures.f) refl in
    let graph : f.2 ≡ c.args.graph = rw (c.with_min_len.ensures.base, c.map.ensures.f) refl in
    let prices : f.3 ≡ c.args.prices = rw (c.with_min_len.ensures.base, c.map.ensures.f) refl in
    let IsRow : ℕ → List (ℕ × ℕ) → Type 0 =
    λ u row. IsOtherRow f.2.now u (row_of f.0.now.rows u) (row_of f.3.now u) row in
    matched c.in_ok-collect.field-0 _ _ _ got.2 (λ rows made.
    let each = each_given NoMemory IsRow n chain.0 got.0 rows.items numbers chain.2 made in
    record {
      long = each.0 ∙ c.count.ensures.value;
      each = λ u from. rw (← near, ← graph, ← prices) (each.1 u [] (omega (arith, c.count.ensures.value)));
    })
