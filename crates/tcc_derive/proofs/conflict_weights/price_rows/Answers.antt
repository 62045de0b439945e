use Rattle.std.proofs.Common.{ℕ, ◌<◌, ◌≤◌, ◌≡◌, List, [], length, flat_map, subst, sym, ◌∙◌, arith}
use Rattle.rayon.proofs.ToStd.{nat_range-All}
use Rattle.tcc_reads.specs.History.{count}
use Rattle.tcc_graph.specs.Levels.{Judged, judged}
use Rattle.tcc_txn.specs.declared.memory.NoMemory.{NoMemory}
use Rattle.tcc_derive.specs.private.Buckets.{bucket}
use Rattle.tcc_derive.specs.private.Lowering.{HaveReads, ArePricedBy}
use Rattle.tcc_derive.specs.private.Sources.{HaveSources}
use Rattle.tcc_near.proofs.RowLemmas.{each_given, numbers_below}
use Rattle.tcc_derive.proofs.PriceLemmas.{price_row_of}
use Rattle.tcc_derive.proofs.TableLemmas.{have_reads}
use Rattle.tcc_derive.proofs.conflict_weights.price_rows.Goals as goal
use Rattle.tcc_txn.specs.declared.limits.TheConstants.{MAX_COUNT}
use Rattle.tcc_txn.proofs.Lists.{matched}
use Rattle.tcc_graph.specs.Tables.{row_of}

pub collect-requires-clause-ready : goal.collect-requires-clause-ready
collect-requires-clause-ready g c κs within =
    let h = c.args.graph.now in
    let near = c.args.near.now in
    let reads = c.args.reads.now in
    let written = c.args.written.now in
    let ends = c.into_par_iter.ensures in
    let square : length near.rows ≡ count h = c.requires.near.square.long in
    let ready =
    nat_range-All (λ b. (b < length near.rows) × (length near.rows ≤ MAX_COUNT) × (length written ≡ length near.rows)
    × HaveReads (length near.rows) reads (bucket written b) × HaveSources (length near.rows) reads c.args.sources.now) 0 c.count.result
    (λ b low high.
    let from : b < count h = omega (arith, c.count.ensures.value) in (
      omega arith,
      omega (arith, c.count.ensures.value, c.count.ensures.few),
      c.requires.written.long ∙ sym square,
      have_reads h (length near.rows) reads written b square c.requires.reads c.requires.written from,
      subst (λ (n : ℕ). HaveSources n reads c.args.sources.now) (sym square) c.requires.sources,
    )) in
    rw (c.with_min_len.ensures.base, c.map.ensures.base, c.map.ensures.f, ends.0, ends.1) (λ k d lt. (ready k d lt, λ y p. tt))

pub returns : goal.returns
returns g c =
    let h = c.args.graph.now in
    let near = c.args.near.now in
    let j : Judged = judged h near.level in
    let reads = c.args.reads.now in
    let written = c.args.written.now in
    let n = c.count.result in
    let small : count h ≤ MAX_COUNT = omega (arith, c.count.ensures.value, c.count.ensures.few) in
    let got = c.in_ok-collect.ensures in
    let chain = rw (c.with_min_len.ensures.base, c.map.ensures.base, c.map.ensures.f) at got.1 in
    let numbers = chain.1 ∙ numbers_below _ _ n c.into_par_iter.ensures.0 c.into_par_iter.ensures.1 in
    let IsPriced : ℕ → List ℕ → Type 0 =
    λ b row. ArePricedBy (flat_map (bucket reads) (bucket written b)) (row_of near.rows b) b row in
    record {
      rows = matched c.in_ok-collect.field-0 _ _ _ got.2 (λ rows made.
          let each = each_given NoMemory IsPriced n chain.0 got.0 rows.items numbers chain.2 made in
          record {
            long = each.0 ∙ c.count.ensures.value;
            each = λ b from.
                price_row_of j near reads written b (row_of rows.items b) small from c.requires.near c.requires.reads c.requires.written
                (each.1 b [] (omega (arith, c.count.ensures.value)));
          });
      few = matched c.in_ok-collect.field-0 _ _ _ got.2 (λ rows made.
          omega (arith, (each_given NoMemory IsPriced n chain.0 got.0 rows.items numbers chain.2 made).0, c.count.ensures.few));
    }
