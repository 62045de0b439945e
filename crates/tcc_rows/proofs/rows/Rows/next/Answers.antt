use Rattle.std.proofs.Common.{subst}
use Rattle.tcc_rows.specs.Ahead.{IsAheadIn}
use Rattle.tcc_rows.specs.Reached.{StandsBy}
use Rattle.tcc_rows.proofs.FailingFacts.{fails-at, fails-sealed}
use Rattle.tcc_rows.proofs.rows.Rows.next.Goals as goal

pub returns-in-Err-clause-failed : goal.returns-in-Err-clause-failed
returns-in-Err-clause-failed g c fresh read limits all taken ahead answers within coming =
    let self = c.args.self.now in
    let stands = subst (λ stage. StandsBy stage g.R.Read.remaining self.records all) c.in-Reading.is within in
    let reading = subst (λ stage. IsAheadIn limits stage g.R.Read.remaining self ahead) c.in-Reading.is coming in
    fails-at limits all taken ahead c.in-Err.fault.row answers (c.in-Err.ensures.failed read limits all ahead stands reading)

pub returns-in-Err-clause-failed_sealed : goal.returns-in-Err-clause-failed_sealed
returns-in-Err-clause-failed_sealed g c fresh read limits all ahead faults within coming =
    let self = c.args.self.now in
    let stands = subst (λ stage. StandsBy stage g.R.Read.remaining self.records all) c.in-Reading.is within in
    let reading = subst (λ stage. IsAheadIn limits stage g.R.Read.remaining self ahead) c.in-Reading.is coming in
    fails-sealed limits all ahead c.in-Err.fault.row faults (c.in-Err.ensures.failed read limits all ahead stands reading)
