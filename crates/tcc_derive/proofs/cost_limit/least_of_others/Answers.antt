use Rattle.std.proofs.Common.{ℕ, ◌≡◌, ◌<◌, ◌≤◌, ◌+◌, get_or, length, min, refl, slice_index, take, arith}
use Rattle.std.proofs.lemmas.List.{get_or_default}
use Rattle.tcc_graph.specs.Tables.{row_of}
use Rattle.tcc_near.specs.declared.walk_lengths.TheConstants.{NONE}
use Rattle.tcc_derive.specs.private.Closings.{IsBackOrNone, back_cost}
use Rattle.tcc_derive.proofs.LimitLemmas.{all_end, all_next, lesser, back_by, others_still}
use Rattle.tcc_derive.proofs.cost_limit.least_of_others.Goals as goal

pub loop-other-preserved : goal.loop-other-preserved
loop-other-preserved c =
    let near = c.args.near.now.rows in
    let row = c.args.prices.now in
    let xs = c.args.others.now in
    let i = c.loop-other.other-index in
    let x = get_or xs i (0, 0) in
    let a = x.0 in
    let b = c.args.b in
    let inside : a < length near = c.requires.within i (0, 0) c.loop-other-test.true in
    let sum : c.saturating_add.result ≡ min (back_cost near row b a) NONE = rw c.row.ensures.value at c.saturating_add.ensures in
    let n = c.min-least.result in (
      lesser (IsBackOrNone near row b) c.loop-other.least c.saturating_add.result n (omega (arith, c.min-least.ensures)) c.loop-other.invariant.0
          (back_by near row a b (slice_index (row_of near a) b) (slice_index row a) c.saturating_add.result inside refl refl sum),
      all_next (λ (p : ℕ × ℕ). n ≤ back_cost near row b p.0) xs i x c.loop-other-test.true (get_or_default xs i (0, 0) x c.loop-other-test.true)
          (others_still near row b (take i xs) c.loop-other.least n (omega (arith, c.min-least.ensures)) c.loop-other.invariant.1)
          (omega (arith, c.min-least.ensures, sum)),
    )

pub returns-clause-least : goal.returns-clause-least
returns-clause-least c =
    all_end (λ (p : ℕ × ℕ). c.loop-other.least ≤ back_cost c.args.near.now.rows c.args.prices.now c.args.b p.0) c.args.others.now c.loop-other.other-index
    c.loop-other-test.false c.loop-other.invariant.1
