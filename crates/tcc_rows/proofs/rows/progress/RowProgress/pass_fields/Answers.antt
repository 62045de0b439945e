use Rattle.std.proofs.Common.{[], ◌∷◌, inl, sym}
use Rattle.tcc_rows.proofs.LineFacts.{operation-line, operation-passes, refused-op, refused-session, refused-word}
use Rattle.tcc_rows.proofs.rows.progress.RowProgress.pass_fields.Goals as goal

pub returns-in-Err-clause-passed : goal.returns-in-Err-clause-passed
returns-in-Err-clause-passed c limits past is =
    inl (refused-session c.args.session.now c.args.word.now c.args.key.now c.args.value.now c.in-Err.kind (sym c.in-Err.ensures.session))

pub returns-in-Err-read_access-clause-passed : goal.returns-in-Err-read_access-clause-passed
returns-in-Err-read_access-clause-passed c limits past is =
    inl (refused-word c.args.session.now c.args.word.now c.args.key.now c.args.value.now c.in-Ok.session c.in-Err-read_access.kind
    (sym c.in-Ok.ensures.session) (sym c.in-Err-read_access.ensures.access))

pub returns-in-Err-read_op-clause-passed : goal.returns-in-Err-read_op-clause-passed
returns-in-Err-read_op-clause-passed c limits past is =
    inl (refused-op c.args.session.now c.args.word.now c.args.key.now c.args.value.now c.in-Ok.session c.in-Ok-read_access.writes c.in-Err-read_op.kind
    (sym c.in-Ok.ensures.session) (sym c.in-Ok-read_access.ensures.access) (sym c.in-Err-read_op.ensures.op))

pub returns-clause-passed : goal.returns-clause-passed
returns-clause-passed c limits past is =
    let lawful =
    operation-line c.args.session.now c.args.word.now c.args.key.now c.args.value.now c.in-Ok.session c.in-Ok-read_access.writes c.in-Ok-read_op.op
    (sym c.in-Ok.ensures.session) (sym c.in-Ok-read_access.ensures.access) (sym c.in-Ok-read_op.ensures.op) in
    operation-passes limits past (c.args.session.now ∷ c.args.word.now ∷ c.args.key.now ∷ c.args.value.now ∷ []) c.in-Ok.session c.in-Ok-read_op.op
    c.operate.result c.operate.new.self lawful (c.operate.ensures.passed limits past is)
