-- The runs, and then the links from one start after the other.
use Rattle.std.proofs.Common.{◌+◌, [], arith, refl}
use Rattle.std.proofs.lemmas.List.{get_or_read}
use Rattle.tcc_check.specs.private.Searches.{IsLongRunTo}
use Rattle.tcc_check.proofs.Overshot.{all_other, more_other, none_other}
use Rattle.tcc_check.proofs.first_broken.long_step.Goals as goal

pub loop-index-init : goal.loop-index-init
loop-index-init c =
    none_other c.args.others.now c.args.row.now c.args.low (IsLongRunTo c.args.begins.now c.args.row.now c.args.low) c.long_run-found.result
    c.long_run-found.ensures

pub loop-index-preserved : goal.loop-index-preserved
loop-index-preserved c =
    let start = c.args.low + c.loop-index.index in
    let same = get_or_read c.args.others.now start c.index-others-start.result (omega (arith, c.requires.long)) c.index-others-start.is [] in
    rw c.lesser-found.ensures (more_other c.args.others.now c.args.row.now c.args.low (IsLongRunTo c.args.begins.now c.args.row.now c.args.low)
    c.loop-index.index c.loop-index.found c.overshot-end.result c.index-others-start.result _ same refl c.loop-index.invariant c.overshot-end.ensures)

pub returns : goal.returns
returns c =
    all_other c.args.others.now c.args.row.now c.args.low (IsLongRunTo c.args.begins.now c.args.row.now c.args.low) c.loop-index.index c.loop-index.found
    (omega arith) c.loop-index.invariant
