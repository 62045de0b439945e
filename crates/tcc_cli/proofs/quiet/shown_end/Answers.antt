use Rattle.std.proofs.Common.{◌≡◌, ◌&&◌, false, get_or, refl, sym, ◌∙◌}
use Rattle.tcc_cli.specs.OrderLines.{goes_on}
use Rattle.tcc_cli.proofs.OrderLines.{more_shown}
use Rattle.tcc_cli.proofs.quiet.shown_end.Goals as goal
use Rattle.tcc_cli.proofs.quiet.shown_end.Goals.{else-is_begun-via-then-is_begun+else-goes_on, else-is_begun-via-else-is_begun}

pub loop-index-preserved : goal.loop-index-preserved
loop-index-preserved c =
    let byte = get_or c.args.bytes.now c.loop-index.index 0 in
    let apart : (c.loop-index.is_begun && goes_on 0 byte) ≡ false = elim c.else-is_begun.branch [
      | else-is_begun-via-then-is_begun+else-goes_on w ↦ rw w.if-is_begun.true (sym w.goes_on.ensures ∙ w.if-goes_on.false)
      | else-is_begun-via-else-is_begun w ↦ rw w.if-is_begun.false refl
    ] in
    let more = more_shown c.args.bytes.now c.loop-index.index c.loop-index.is_begun c.loop-index-test.true c.loop-index.invariant.shown c.loop-index.invariant.line apart in
    record { shown = more.0; line = more.1 }
