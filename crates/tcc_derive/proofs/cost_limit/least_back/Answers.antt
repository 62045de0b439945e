use Rattle.std.proofs.Common.{◌≡◌, ◌<◌, ◌+◌, inl, length, min, refl, slice_index, arith}
use Rattle.tcc_graph.specs.Tables.{row_of}
use Rattle.tcc_near.specs.declared.walk_lengths.TheConstants.{NONE}
use Rattle.tcc_derive.specs.private.Closings.{IsBackOrNone, back_cost}
use Rattle.tcc_derive.proofs.LimitLemmas.{lesser, back_by, one_cheaper}
use Rattle.tcc_derive.proofs.cost_limit.least_back.Goals as goal

pub loop-a-preserved : goal.loop-a-preserved
loop-a-preserved c =
    let near = c.args.near.now.rows in
    let row = c.args.prices.now in
    let a = c.loop-a.a in
    let b = c.args.b in
    let inside : a < length near = omega (arith, c.loop-a-test.true, c.requires.within, c.requires.long) in
    let sum : c.saturating_add.result ≡ min (back_cost near row b a) NONE = rw c.row.ensures.value at c.saturating_add.ensures in (
      lesser (IsBackOrNone near row b) c.loop-a.least c.saturating_add.result c.min-least.result (omega (arith, c.min-least.ensures)) c.loop-a.invariant.0
          (back_by near row a b (slice_index (row_of near a) b) (slice_index row a) c.saturating_add.result inside refl refl sum),
      one_cheaper near row b c.args.from a c.loop-a.least c.min-least.result (omega (arith, c.min-least.ensures)) (omega (arith, c.min-least.ensures, sum))
          c.loop-a.invariant.1,
    )
