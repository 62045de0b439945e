use Rattle.tcc_rows.proofs.SessionStateFacts.{ended-more}
use Rattle.tcc_rows.proofs.rows.progress.note_ended.Goals as goal

pub returns-in-Ok-clause-noted : goal.returns-in-Ok-clause-noted
returns-in-Ok-clause-noted c past holds = ended-more past c.args.session c.args.ended.now c.insert.new.self holds c.in-Ok.ensures.updates.0
