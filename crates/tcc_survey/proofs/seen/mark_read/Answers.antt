use Rattle.std.proofs.Common.{rules, ℕ, ◌<◌, length, slice_index, refl, arith}
use Rattle.tcc_survey.specs.private.Settled.{reading_of}
use Rattle.tcc_survey.proofs.SeenLemmas.{marks_more}
use Rattle.tcc_survey.proofs.seen.mark_read.Goals as goal

pub returns-clause-marks : goal.returns-clause-marks
returns-clause-marks c =
    let owners = c.args.owners.now in
    let reads = c.args.reads.now in
    let marks = c.args.marks.now in
    let n : ℕ = c.args.index in
    let at : ℕ = slice_index owners (reading_of reads n).source in
    let room : at < length marks = (c.requires.room n c.requires.inside).2 in
    marks_more owners reads n marks c.requires.marks (omega (arith, c.if-read-eq0.false)) at refl room c.later.result
    (search rules) (search rules) c.later.ensures.new
