use Rattle.std.proofs.Common.{Err, sym, ◌∙◌}
use Rattle.tcc_rows.specs.Past.{keys}
use Rattle.tcc_txn.specs.Transactions.{op_key}
use Rattle.tcc_rows.proofs.SeatFacts.{seat-within}
use Rattle.tcc_rows.proofs.SessionStateFacts.{after-operation, noted-on, operation-refused, seated-added}
use Rattle.tcc_rows.proofs.rows.progress.RowProgress.operate.Goals as goal

pub operate-requires-clause-within : goal.operate-requires-clause-within
operate-requires-clause-within c = seat-within c.args.self.now.sessions c.args.session c.in-Some.number c.in-Some.ensures

pub note-requires : goal.note-requires
note-requires c = rw c.operate.ensures.count (seat-within c.args.self.now.sessions c.args.session c.in-Some.number c.in-Some.ensures)

pub returns-in-Err-clause-passed : goal.returns-in-Err-clause-passed
returns-in-Err-clause-passed c limits past is =
    let (begun, after, sits, refused, kept) = c.in-Err.ensures.added c.args.session c.in-Some.ensures in
    operation-refused limits past c.args.session c.args.op c.in-Err.kind begun c.args.self.now.sessions after
    (sym (is.ended c.args.session) ∙ sym c.contains.ensures ∙ c.if-contains.false) is.seats sits refused

pub returns-in-Ok-clause-passed : goal.returns-in-Ok-clause-passed
returns-in-Ok-clause-passed c limits past is =
    let (begun, after, sits, added, kept) = c.in_default-operate.ensures.added c.args.session c.in-Some.ensures in
    let placed =
    seated-added limits past c.args.session c.args.op c.args.self.now c.operate.new.self begun after c.in_default-operate.field-0 is sits added kept
    c.operate.ensures.count in
    let noted = rw (is.kept, c.key-key.ensures) at (c.in-Ok.ensures.noted (keys past) (rw is.kept is.names)) in
    rw c.note.ensures.kept
    (after-operation limits past c.args.session c.args.op c.args.self.now c.operate.new.self c.note_key.new.keys c.note.result
    (sym (is.ended c.args.session) ∙ sym c.contains.ensures ∙ c.if-contains.false) is placed
    (noted-on limits (keys past) (op_key c.args.op) c.note.result c.note_key.new.keys noted c.note.ensures.memory))

pub returns-in-Err-note_key-clause-passed : goal.returns-in-Err-note_key-clause-passed
returns-in-Err-note_key-clause-passed c limits past is =
    let (begun, after, sits, added, kept) = c.in_default-operate.ensures.added c.args.session c.in-Some.ensures in
    let placed =
    seated-added limits past c.args.session c.args.op c.args.self.now c.operate.new.self begun after c.in_default-operate.field-0 is sits added kept
    c.operate.ensures.count in
    after-operation limits {U = Unit {0}} past c.args.session c.args.op c.args.self.now c.operate.new.self c.note_key.new.keys (Err c.in-Err-note_key.kind)
    (sym (is.ended c.args.session) ∙ sym c.contains.ensures ∙ c.if-contains.false) is placed
    (rw (is.kept, c.key-key.ensures) at (c.in-Err-note_key.ensures.noted (keys past) (rw is.kept is.names)))
