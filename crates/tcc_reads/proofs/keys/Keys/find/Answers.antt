use Rattle.std.proofs.Common.{sym}
use Rattle.tcc_reads.proofs.Indices.{found, missed, numbered_key}
use Rattle.tcc_reads.proofs.keys.Keys.find.Goals as goal

pub returns-in-Some-clause-value : goal.returns-in-Some-clause-value
returns-in-Some-clause-value c =
    sym (numbered_key c.args.self.now c.args.key.now c.in-Some.index (rw c.self.view_is at c.self.invariant.0) c.in-Some.ensures)

pub returns-in-Ok-clause-value : goal.returns-in-Ok-clause-value
returns-in-Ok-clause-value c =
    rw (← c.self.view_is)
    (sym (found c.self.inside.names.items c.args.key.now c.in-Ok.index c.self.invariant.0
    (rw c.deref.ensures.value at c.in-Ok.ensures.bound) (rw c.deref.ensures.value at c.in-Ok.ensures.position)))

pub returns-in-Err-clause-value : goal.returns-in-Err-clause-value
returns-in-Err-clause-value c =
    rw (← c.self.view_is)
    (sym (missed c.self.inside.names.items c.args.key.now c.in-Err.field-0 c.self.invariant.0 (rw c.deref.ensures.value at c.in-Err.ensures.position)))
