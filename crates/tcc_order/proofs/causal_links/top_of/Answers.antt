use Rattle.std.proofs.Common.{◌≡◌, ◌<◌, ◌∙◌, ℕ, length, replicate, slice_index, subst, sym, arith}
use Rattle.std.specs.Prelude.{max}
use Rattle.std.proofs.lemmas.List.{get_or-replicate, length-replicate}
use Rattle.tcc_graph.specs.Tables.{row_of}
use Rattle.tcc_clocks.specs.declared.latest.TheConstants.{WIDE}
use Rattle.tcc_order.specs.private.ByKey.{IsTop, past_of, reader_in}
use Rattle.tcc_order.proofs.ByKey.{tops_none, tops_more, tops_passed, top_past}
use Rattle.tcc_order.proofs.causal_links.top_of.Goals as goal
use Rattle.tcc_order.proofs.causal_links.top_of.Goals.{then-not-are_same, else-not-are_same}
use Rattle.std.proofs.Common.{refl}

pub loop-index-init : goal.loop-index-init
loop-index-init c =
    tops_none c.args.table.now c.args.readings.now c.args.start (row_of c.args.table.now c.args.a) (replicate WIDE 0) (length-replicate {A = ℕ} WIDE 0)
    (λ k l. get_or-replicate {A = ℕ} WIDE k 0 0 (omega (arith, l, length-replicate {A = ℕ} WIDE 0)))

pub loop-index-preserved : goal.loop-index-preserved
loop-index-preserved c =
    let table = c.args.table.now in
    let readings = c.args.readings.now in
    let known = row_of table c.args.a in
    let n = c.loop-index.index in
    let old = c.loop-index.top in
    let inv = c.loop-index.invariant in
    let clock = row_of table (reader_in readings n) in
    elim c.if-not-are_same.branch [
      | then-not-are_same w ↦ (
          let new = w.raise_each.new.row in
          let each : (s : ℕ) → s < length old → slice_index new s ≡ max (slice_index clock s) (slice_index old s)
          = rw w.get.ensures at w.raise_each.ensures.each in
          rw w.top-is (tops_more table readings c.args.start known n c.loop-index.auto.index old inv.0 inv.1 clock new refl w.raise_each.ensures.same each)
          )
      | else-not-are_same w ↦ rw w.top-is
          (tops_passed table readings c.args.start known n c.loop-index.auto.index old inv.0 inv.1 (c.are_same.ensures w.if-not-are_same.false))
    ]

pub keep_past-requires : goal.keep_past-requires
keep_past-requires c = c.loop-index.invariant.0 ∙ sym (rw c.get-known.ensures (c.requires.wide c.args.a c.requires.below))

pub returns-clause-wide : goal.returns-clause-wide
returns-clause-wide c = c.keep_past.ensures.same ∙ c.loop-index.invariant.0

pub returns-clause-tops : goal.returns-clause-tops
returns-clause-tops c = λ k l.
    let table = c.args.table.now in
    let readings = c.args.readings.now in
    let known = row_of table c.args.a in
    let old = c.loop-index.top in
    let inv = c.loop-index.invariant in
    let whole : c.loop-index.index ≡ c.args.end = omega (arith, c.loop-index-test.false, c.loop-index.auto.index) in
    let tops : IsTop table readings c.args.start c.args.end known k (slice_index old k)
    = subst (λ (n : ℕ). IsTop table readings c.args.start n known k (slice_index old k)) whole (inv.1 k l) in
    let is : slice_index c.keep_past.new.top k ≡ past_of (slice_index known k) (slice_index old k)
    = rw c.get-known.ensures at (c.keep_past.ensures.each k (omega (arith, l, inv.0))) in
    rw is (top_past table readings c.args.start c.args.end known k (slice_index old k) tops)
