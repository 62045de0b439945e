-- No link is left.
use Rattle.std.proofs.Common.{◌≡◌, ◌+◌, arith}
use Rattle.tcc_cert.proofs.reading.stages.links.Goals as goal

pub returns-else-left-gt0-clause-step : goal.returns-else-left-gt0-clause-step
returns-else-left-gt0-clause-step g c at from before =
    let none : c.args.left.many ≡ 0 = omega (arith, c.if-left-gt0.false) in
    rw none (c.marked.ensures.step at before)

pub returns-else-left-gt0-clause-row : goal.returns-else-left-gt0-clause-row
returns-else-left-gt0-clause-row g c =
    let n = c.args.left.transactions in
    let same : c.args.left.many + (n + n) ≡ n + n = omega (arith, c.if-left-gt0.false) in
    rw same c.marked.ensures.row
