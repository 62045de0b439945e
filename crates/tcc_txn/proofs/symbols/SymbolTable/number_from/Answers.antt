use Rattle.std.proofs.Common.{sym}
use Rattle.tcc_txn.proofs.NumberedNames.{no_more}
use Rattle.tcc_txn.proofs.symbols.SymbolTable.number_from.Goals as goal

pub returns-in-Some-checked-clause-once : goal.returns-in-Some-checked-clause-once
returns-in-Some-checked-clause-once c = sym (no_more c.args.self.now c.args.name c.in-Some-checked.number c.in-Some-checked.ensures)
