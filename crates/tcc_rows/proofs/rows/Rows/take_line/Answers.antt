use Rattle.tcc_rows.specs.private.ControlRecords.{line_by}
use Rattle.tcc_rows.proofs.AheadFacts.{judged-lawful}
use Rattle.tcc_rows.proofs.rows.Rows.take_line.Goals as goal

pub returns-in-Ok-clause-fields : goal.returns-in-Ok-clause-fields
returns-in-Ok-clause-fields g c limits past fields is row whole lawful =
    let passed = c.in-Ok.ensures.passed limits past is in
    (line_by c.args.turn, judged-lawful limits past fields (line_by c.args.turn) whole lawful passed.0, passed.1, passed.2)
