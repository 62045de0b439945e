use Rattle.std.proofs.Common.{rules, ◌≡◌, ◌<◌, ◌≤◌, ◌∙◌, ℕ, ap, length, get_or, slice_index, subst, sym, arith}
use Rattle.tcc_reads.specs.History.{count}
use Rattle.tcc_graph.specs.Keys.{key_at, writers}
use Rattle.tcc_graph.specs.Tables.{row_of}
use Rattle.tcc_order.specs.private.CausalLinks.{AreLatestPast, IsOverwritten, IsLifted}
use Rattle.tcc_order.specs.private.ByKey.{key_index_in}
use Rattle.tcc_clocks.specs.private.Between.{IsBetween}
use Rattle.tcc_clocks.specs.declared.latest.TheConstants.{WIDE}
use Rattle.tcc_order.proofs.ByKey.{IsReadBefore, read_none, read_more, read_all, reading_below, reading_key, top_clock}
use Rattle.tcc_order.proofs.Rising.{owners_ordered}
use Rattle.tcc_order.proofs.Spans.{lifted_between}
use Rattle.tcc_clocks.proofs.SpanLemmas.{all_between, between_span, writers_rise}
use Rattle.tcc_order.proofs.Stepped.{writers_inside}
use Rattle.tcc_order.proofs.causal_links.needed.Goals.{After-between-writers}
use Rattle.tcc_order.proofs.causal_links.needed.Goals as goal

-- the writers of the key that are considered
writers_part : (c : After-between-writers) → IsBetween (writers c.args.graph.now (key_at c.args.graph.now (key_index_in c.args.readings.now c.loop-start.start)))
    c.args.bounds.0 c.args.bounds.1 c.between-writers.result.now
writers_part c =
    let h = c.args.graph.now in
    let x = key_at h (key_index_in c.args.readings.now c.loop-start.start) in
    rw (c.between-writers.ensures, c.writers_at-all.ensures)
    (between_span (writers h x) (writers_rise h x) c.args.bounds.0 c.args.bounds.1 _ _ (rw c.writers_at-all.ensures at c.span_of.ensures))

pub span_of-requires : goal.span_of-requires
span_of-requires c =
    let h = c.args.graph.now in
    rw c.writers_at-all.ensures (writers_rise h (key_at h (key_index_in c.args.readings.now c.loop-start.start)))

pub loop-start-init : goal.loop-start-init
loop-start-init c =
    let zeros : (k : ℕ) → k < length c.fill.new.self → get_or c.fill.new.self k 0 ≡ 0 = search rules in
    let wide : length c.fill.new.self ≡ WIDE = c.fill.ensures.len ∙ c.requires.wide in
    (omega arith, read_none c.args.graph.now c.args.from c.args.a c.args.readings.now c.fill.new.self (row_of c.args.table.now c.args.a) wide zeros)

pub top_of-top-requires-clause-readers : goal.top_of-top-requires-clause-readers
top_of-top-requires-clause-readers c = λ k l.
    omega (arith, reading_below c.args.graph.now c.args.from c.args.table.now c.args.a c.args.readings.now c.requires.readings k l, c.requires.clocks.long)

pub top_of-top-requires-clause-wide : goal.top_of-top-requires-clause-wide
top_of-top-requires-clause-wide c = λ n l. let below : n < count c.args.graph.now = omega (arith, l, c.requires.clocks.long) in (c.requires.clocks.each n below below).wide

pub lift_writers-requires : goal.lift_writers-requires
lift_writers-requires c =
    let h = c.args.graph.now in
    let owners = c.args.owners.now in
    let key : ℕ = key_index_in c.args.readings.now c.loop-start.start in
    let tops = c.top_of-top.ensures in
    let low : ℕ = c.args.bounds.0 in
    let high : ℕ = c.args.bounds.1 in
    let part : IsBetween (writers h (key_at h key)) low high c.between-writers.result.now = writers_part (goal.at.lift_writers-requires c).After-between-writers in
    record {
      same = c.loop-start.invariant.1.wide ∙ sym tops.wide;
      ordered = owners_ordered h c.requires.numbered owners c.requires.owners;
      owned = top_clock h c.requires.numbered owners c.requires.owners c.args.from c.args.a c.args.readings.now c.args.table.now c.requires.clocks
          (reading_below h c.args.from c.args.table.now c.args.a c.args.readings.now c.requires.readings) c.loop-start.start c.end_of_key-end.result c.end_of_key-end.ensures.within
          c.top_of-top.result (row_of c.args.table.now c.args.a) tops.wide tops.tops;
      rising = part.rising;
      inside = all_between (λ b. b < length owners) (writers h (key_at h key)) low high c.between-writers.result.now part
          (writers_inside h owners c.requires.owners (key_at h key));
    }

pub loop-start-preserved : goal.loop-start-preserved
loop-start-preserved c =
    let h = c.args.graph.now in
    let owners = c.args.owners.now in
    let from = c.args.from in
    let table = c.args.table.now in
    let readings = c.args.readings.now in
    let a = c.args.a in
    let low = c.args.bounds.0 in
    let high = c.args.bounds.1 in
    let start = c.loop-start.start in
    let end = c.end_of_key-end.result in
    let top = c.top_of-top.result in
    let old = c.loop-start.need in
    let new = c.lift_writers.new.need in
    let inv = c.loop-start.invariant in
    let key : ℕ = key_index_in readings start in
    let ws = writers h (key_at h key) in
    let part : IsBetween ws low high c.between-writers.result.now = writers_part (goal.at.loop-start-preserved c).After-between-writers in
    let some : (s : ℕ) → s < length old → IsLifted owners from top c.between-writers.result.now a s (slice_index old s) (slice_index new s)
    = c.lift_writers.ensures.each in
    let lift : (s : ℕ) → s < length old → IsLifted owners from top ws a s (slice_index old s) (slice_index new s)
    = λ s l.
    lifted_between owners from low high top ws c.between-writers.result.now a s (slice_index old s) (slice_index new s)
    (omega (arith, l, inv.1.wide)) c.requires.bounds (writers_inside h owners c.requires.owners (key_at h key)) part (some s l) in
    let upto : start ≤ end = omega (arith, c.end_of_key-end.ensures.past) in (
      c.end_of_key-end.ensures.within,
      read_more h c.requires.numbered owners c.requires.owners from a readings table c.requires.clocks (reading_below h from table a readings c.requires.readings) start end
          c.end_of_key-end.ensures.within top (row_of table a) c.top_of-top.ensures.wide c.top_of-top.ensures.tops upto (key_at h key)
          (λ j above less. ap (λ p. key_at h p) (c.end_of_key-end.ensures.same j above less)) old new inv.1 c.lift_writers.ensures.same lift,
    )

pub loop-start-smaller : goal.loop-start-smaller
loop-start-smaller c = omega (arith, c.end_of_key-end.ensures.past, c.end_of_key-end.ensures.within)

pub returns : goal.returns
returns c =
    let h = c.args.graph.now in
    let a = c.args.a in
    let readings = c.args.readings.now in
    let known = row_of c.args.table.now a in
    let need = c.loop-start.need in
    let whole : c.loop-start.start ≡ length readings = omega (arith, c.loop-start-test.false, c.loop-start.invariant.0) in
    read_all h c.args.from c.args.table.now a readings c.requires.readings need
    (subst (λ (z : ℕ). AreLatestPast h (IsOverwritten h (IsReadBefore h readings z) a) c.args.from known need) whole c.loop-start.invariant.1)

pub writers_at-all-requires : goal.writers_at-all-requires
writers_at-all-requires c =
    reading_key c.args.graph.now c.args.from c.args.table.now c.args.a c.args.readings.now c.requires.readings c.loop-start.start c.loop-start-test.true
