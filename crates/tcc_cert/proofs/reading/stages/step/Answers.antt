-- The links and the rows go on from where they are.
use Rattle.tcc_cert.proofs.reading.stages.step.Goals as goal

pub returns-in-Links-clause-step : goal.returns-in-Links-clause-step
returns-in-Links-clause-step g c at ahead before is =
    let behind = rw c.in-Links.is at is in
    rw behind.1 (c.links.ensures.step at behind.0 before)

pub returns-in-Rows-clause-step : goal.returns-in-Rows-clause-step
returns-in-Rows-clause-step g c at ahead before is =
    let behind = rw c.in-Rows.is at is in
    rw behind.2 (c.rows.ensures.step at behind.0 behind.1 before)
