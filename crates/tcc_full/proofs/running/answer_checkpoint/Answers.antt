use Rattle.tcc_full.proofs.Runs.{out_of_memory, told}
use Rattle.tcc_full.proofs.running.answer_checkpoint.Goals as goal

pub returns-in-Ok : goal.returns-in-Ok
returns-in-Ok g c = λ whole.
    told c.args.asked.now c.args.run.now.options.now.required c.args.text.now c.args.snapshot.now c.in-Ok.found _ _ _ _ c.tell_found-code.result whole
    c.in-Ok.ensures c.note.ensures (rw c.within-text.ensures at c.tell_found-code.ensures)

pub returns-in-Err : goal.returns-in-Err
returns-in-Err g c = λ whole.
    out_of_memory c.args.asked.now c.args.run.now.options.now.required c.args.text.now _ _ _ c.tell_memory.result c.tell_memory.ensures
