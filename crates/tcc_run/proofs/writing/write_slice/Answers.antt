use Rattle.std.proofs.Common.{sym}
use Rattle.tcc_run.proofs.Files.{slice_given}
use Rattle.tcc_run.proofs.writing.write_slice.Goals as goal

pub returns-in-Some-slice : goal.returns-in-Some-slice
returns-in-Some-slice g c = λ is.
    rw c.in-Some-slice.is
    (slice_given c.args.run.now.options.now c.args.snapshot.now c.args.outcome.now c.in-Some.links.now c.send_slice.result _ _ _ _ is (sym c.in-Some.ensures)
    (c.send_slice.ensures is (sym c.in-Some.ensures)))
