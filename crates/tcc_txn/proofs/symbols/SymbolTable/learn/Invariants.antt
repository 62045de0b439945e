use Rattle.tcc_txn.specs.Nested.{IsPrefix}
use Rattle.tcc_txn.proofs.symbols.SymbolTable.learn.Given as goal

abbrev pub invariant-loop-name : goal.invariant-loop-name
invariant-loop-name l = IsPrefix l.initial.self l.self
