use Rattle.std.proofs.Common.{sym, subst}
use Rattle.tcc_txn.specs.declared.op.Op.{Op}
use Rattle.tcc_watch.specs.private.Values.{NotesValue}
use Rattle.tcc_watch.proofs.OperationLemmas.{value_noted}
use Rattle.tcc_watch.proofs.values.note_value.Goals as goal

pub returns : goal.returns
returns c =
    subst (λ (z : Op). NotesValue c.args.ops.now c.args.number z c.args.values.now c.put.new.self) (sym c.in-Put.is)
    (value_noted c.args.ops.now c.args.number c.in-Put.key c.in-Put.value c.args.values.now c.put.new.self c.number_shown-shown.result c.number_shown-shown.ensures
    c.in_ok-put.ensures)
