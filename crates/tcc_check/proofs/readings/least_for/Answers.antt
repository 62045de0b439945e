-- One reader after the other, up to the first for whom the row has as little as for any.
use Rattle.std.proofs.Common.{◌+◌, arith}
use Rattle.tcc_check.proofs.ByKey.{IsLeastFor, all-for, enough-for, more-for, none-for}
use Rattle.tcc_check.proofs.readings.least_for.Goals as goal

pub loop-reader-init : goal.loop-reader-init
loop-reader-init c = none-for c.args.readers.now c.args.row.now

pub loop-reader-preserved : goal.loop-reader-preserved
loop-reader-preserved c = rw c.min-least.ensures (more-for c.args.readers.now c.args.row.now c.loop-reader.reader-index c.loop-reader.least c.loop-reader.invariant)

pub returns-then-least-floor : goal.returns-then-least-floor
returns-then-least-floor c =
    let seen : IsLeastFor (c.loop-reader.reader-index + 1) c.args.readers.now c.args.row.now c.min-least.result =
    rw c.min-least.ensures (more-for c.args.readers.now c.args.row.now c.loop-reader.reader-index c.loop-reader.least c.loop-reader.invariant) in
    let all =
    enough-for c.args.readers.now c.args.row.now (c.loop-reader.reader-index + 1) c.min-least.result c.args.floor (omega (arith, c.loop-reader-test.true))
    c.if-least-floor.true c.requires.floor c.requires.readers seen in
    record { low = all.0; from = all.1 }

pub returns : goal.returns
returns c =
    let all = all-for c.args.readers.now c.args.row.now c.loop-reader.reader-index c.loop-reader.least (omega arith) c.loop-reader.invariant in
    record { low = all.0; from = all.1 }
