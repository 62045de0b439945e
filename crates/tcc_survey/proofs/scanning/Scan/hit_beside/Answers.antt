use Rattle.std.proofs.Common.{arith}
use Rattle.tcc_survey.proofs.BesideLemmas.{beside_least, beside_more, beside_none}
use Rattle.tcc_survey.proofs.scanning.Scan.hit_beside.Goals as goal

pub loop-read-init : goal.loop-read-init
loop-read-init c = beside_none c.args.self.now c.reads_at-read-items.result.now c.hit_of_own-least.result c.hit_of_own-least.ensures

pub lesser_hit-least-requires-clause-attained : goal.lesser_hit-least-requires-clause-attained
lesser_hit-least-requires-clause-attained c = c.loop-read.invariant.attained

pub loop-read-preserved : goal.loop-read-preserved
loop-read-preserved c =
    beside_more c.args.self.now c.reads_at-read-items.result.now c.loop-read.read-index c.loop-read.least c.lesser_hit-least.result c.loop-read.invariant
    c.lesser_hit-least.ensures.attained c.lesser_hit-least.ensures.kept c.lesser_hit-least.ensures.met

pub returns : goal.returns
returns c =
    beside_least c.args.self.now c.reads_at-read-items.result.now c.requires.may c.requires.level c.reads_at-read-items.ensures.value c.loop-read.read-index
    c.loop-read.least c.loop-read.invariant (omega (arith, c.loop-read-test.false))
