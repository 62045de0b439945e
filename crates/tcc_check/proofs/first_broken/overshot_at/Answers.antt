-- One end after the other.
use Rattle.std.proofs.Common.{arith, sym}
use Rattle.tcc_check.proofs.Overshot.{all_at, none_at, found_at, skipped_at}
use Rattle.tcc_check.proofs.first_broken.overshot_at.Goals as goal
use Rattle.tcc_check.proofs.first_broken.overshot_at.Goals.{then-low-end+then-cost-from, else-low-end}
use Rattle.tcc_check.proofs.first_broken.overshot_at.Goals.{else-low-end-via-then-low-end+else-cost-from}
use Rattle.tcc_check.proofs.first_broken.overshot_at.Goals.{else-low-end-via-else-low-end}

pub loop-end-init : goal.loop-end-init
loop-end-init c = none_at c.args.ends.now c.args.row.now c.args.low c.args.cost

pub returns : goal.returns
returns c = all_at c.args.ends.now c.args.row.now c.args.low c.args.cost c.loop-end.end-index c.loop-end.found (omega arith) c.loop-end.invariant

pub loop-end-preserved : goal.loop-end-preserved
loop-end-preserved c =
    let ends = c.args.ends.now in
    let row = c.args.row.now in
    let i = c.loop-end.end-index in
    elim c.if-low-end.branch [
      | then-low-end+then-cost-from w ↦ rw (w.found-is, w.lesser-found.ensures)
          (found_at ends row c.args.low c.args.cost i c.from-end.result c.loop-end.found (sym c.from-end.ensures)
          (omega (arith, c.requires i 0 c.loop-end-test.true, c.from-end.ensures)) w.if-low-end.true
          (omega (arith, w.if-cost-from.true, w.from.ensures)) c.loop-end.invariant)
      | else-low-end w ↦ rw w.found-is (skipped_at ends row c.args.low c.args.cost i c.loop-end.found
          (elim w.else-low-end.branch [
            | else-low-end-via-then-low-end+else-cost-from v ↦ rw (← c.from-end.ensures)
                (λ low more. absurd (omega (arith, more, v.if-cost-from.false, v.from.ensures)))
            | else-low-end-via-else-low-end v ↦ (λ low more. absurd (omega (arith, low, v.if-low-end.false, c.from-end.ensures)))
          ]) c.loop-end.invariant)
    ]
