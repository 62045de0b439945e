use Rattle.tcc_rows.proofs.rows.Rows.advance.Goals as goal

pub returns-in-Ok-Some-clause-item : goal.returns-in-Ok-Some-clause-item
returns-in-Ok-Some-clause-item g c limits ahead reading =
    rw c.in-Ok-Some.field-0-is at (c.in-Ok-Some.ensures.line limits ahead (c.records.invariant.reading limits ahead reading))

pub returns-in-Err-clause-fault : goal.returns-in-Err-clause-fault
returns-in-Err-clause-fault g c limits ahead reading = c.in-Err.ensures.line limits ahead (c.records.invariant.reading limits ahead reading)

pub returns-in-Err-clause-failed : goal.returns-in-Err-clause-failed
returns-in-Err-clause-failed g c read limits all ahead stands reading =
    c.in-Err.ensures.failed read limits all ahead (c.records.invariant.stands all stands) (c.records.invariant.reading limits ahead reading)
