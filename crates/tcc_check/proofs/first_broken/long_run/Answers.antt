use Rattle.std.proofs.Common.{◌≡◌, ◌+◌, get_or, arith}
use Rattle.tcc_check.proofs.Carried.{carried_more, first_long, none_long}
use Rattle.tcc_check.proofs.first_broken.long_run.Goals as goal
use Rattle.tcc_check.proofs.first_broken.long_run.Goals.{then-end-eq0, else-end-eq0}

pub returns-then-from : goal.returns-then-from
returns-then-from c =
    first_long c.args.begins.now c.args.row.now c.args.low c.loop-index.index c.requires.runs c.requires.begins c.loop-index-test.true c.loop-index.opening
    c.loop-index.least c.run_least-least.result c.loop-index.invariant.1 c.run_least-least.ensures.anew c.run_least-least.ensures.on
    (omega (arith, c.type_inv.row c.loop-index.index)) (omega (arith, c.if-from.true, c.from.ensures, c.from-in-loop-index.ensures))
    c.loop-index.invariant.0

pub loop-index-preserved : goal.loop-index-preserved
loop-index-preserved c =
    let row = c.args.row.now in
    let index = c.loop-index.index in
    let end = c.args.low + index in
    let opening : ((end ≡ 0 → c.if-end-eq0.opening ≡ get_or row index 0) × ((end ≡ 0 → ⊥) → c.if-end-eq0.opening ≡ c.loop-index.opening)) =
    elim c.if-end-eq0.branch [
      | then-end-eq0 w ↦ (λ first. w.opening-is, λ other. absurd (other w.if-end-eq0.true))
      | else-end-eq0 w ↦ (λ first. absurd (w.if-end-eq0.false first), λ other. w.opening-is)
    ] in (
      none_long c.args.begins.now row c.args.low index c.requires.runs c.requires.begins c.loop-index-test.true c.loop-index.opening c.loop-index.least
          c.run_least-least.result c.loop-index.invariant.1 c.run_least-least.ensures.anew c.run_least-least.ensures.on
          (λ l. absurd (omega (arith, l, c.if-from.false, c.from.ensures, c.from-in-loop-index.ensures))) c.loop-index.invariant.0,
      carried_more c.args.begins.now row c.args.low index c.requires.runs c.requires.begins c.loop-index-test.true c.loop-index.opening c.loop-index.least
          c.run_least-least.result c.loop-index.invariant.1 c.run_least-least.ensures.anew c.run_least-least.ensures.on c.if-end-eq0.opening
          c.min-least.result c.min-least.ensures opening.0 opening.1,
    )

pub returns : goal.returns
returns c = λ a l p. c.loop-index.invariant.0 a (omega arith) p
