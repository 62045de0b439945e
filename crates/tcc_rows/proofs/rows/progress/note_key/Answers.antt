use Rattle.tcc_txn.proofs.NumberedNames.{among}
use Rattle.tcc_rows.proofs.SessionStateFacts.{names-kept}
use Rattle.tcc_rows.proofs.rows.progress.note_key.Goals as goal

pub returns-in-Some-clause-noted : goal.returns-in-Some-clause-noted
returns-in-Some-clause-noted c names holds =
    names-kept c.args.limits names c.args.key c.args.keys.now holds (among c.args.keys.now c.args.key c.in-Some.number c.in-Some.ensures)
