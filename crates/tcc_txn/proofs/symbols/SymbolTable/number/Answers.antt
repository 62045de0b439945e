use Rattle.std.proofs.Common.{sym, ◌∙◌}
use Rattle.tcc_txn.proofs.NumberedNames.{no_more}
use Rattle.tcc_txn.proofs.symbols.SymbolTable.number.Goals as goal

pub returns-in-Some-clause-once : goal.returns-in-Some-clause-once
returns-in-Some-clause-once c = sym (no_more c.args.self.now c.args.name c.in-Some.number c.in-Some.ensures)

pub returns-in-Some-mapped-clause-once : goal.returns-in-Some-mapped-clause-once
returns-in-Some-mapped-clause-once c =
    c.note.ensures ∙ sym (no_more c.args.self.now c.args.name c.in-Some-mapped.number c.in-Some-mapped.ensures)
