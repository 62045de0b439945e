use Rattle.std.proofs.Common.{ℕ, ◌+◌, ◌<◌, ◌≤◌, ◌≡◌, [], length, slice_index, ◌∙◌, arith}
use Rattle.std.specs.Prelude.{All}
use Rattle.rayon.proofs.ToStd.{nat_range-All}
use Rattle.tcc_txn.specs.declared.limits.TheConstants.{MAX_COUNT}
use Rattle.tcc_txn.specs.declared.memory.NoMemory.{NoMemory}
use Rattle.tcc_txn.proofs.Lists.{matched}
use Rattle.tcc_graph.specs.Tables.{row_of}
use Rattle.tcc_near.proofs.RowLemmas.{each_given, numbers_below}
use Rattle.tcc_derive.specs.private.Classes.{ArePartedBelow}
use Rattle.tcc_derive.specs.declared.by_class.ByClass.{ByClass}
use Rattle.tcc_derive.proofs.by_class.by_class_rows.Goals as goal

pub collect-requires-clause-ready : goal.collect-requires-clause-ready
collect-requires-clause-ready g c κs within =
    let others = c.args.others.now in
    let bounds = c.into_par_iter.ensures in
    let ready =
    nat_range-All (λ u. (u < length others) × (length others ≤ MAX_COUNT) × (length c.args.ends.now ≡ length others)
    × All (λ (p : ℕ × ℕ). p.0 < length others) (row_of others u)) 0 (length others)
    (λ u low high. (omega (arith, high), c.requires.few, c.requires.ends, c.requires.within u [] (omega (arith, high)))) in
    rw (c.with_min_len.ensures.base, c.map.ensures.base, c.map.ensures.f, bounds.0, bounds.1) (λ k d lt. (ready k d lt, λ y p. tt))

pub returns : goal.returns
returns g c =
    let others = c.args.others.now in
    let ends = c.args.ends.now in
    let got = c.in_ok-collect.ensures in
    let chain = rw (c.with_min_len.ensures.base, c.map.ensures.base, c.map.ensures.f) at got.1 in
    let numbers = chain.1 ∙ numbers_below _ _ (length others) c.into_par_iter.ensures.0 c.into_par_iter.ensures.1 in
    let IsRow : ℕ → ByClass → Type 0 = λ u links. ArePartedBelow (length others) (u + 1) (slice_index ends u) (row_of others u) (c.args.limit + 1)
    links.classes.items links.rest in
    matched c.in_ok-collect.field-0 _ _ _ got.2 (λ rows made.
    let each = each_given NoMemory IsRow (length others) chain.0 got.0 rows.items numbers chain.2 made in
    record { long = each.0; each = λ u d from. each.1 u d from })
