use Rattle.std.proofs.Common.{All, take}
use Rattle.tcc_explain.specs.Keys.{NamesKeys}
use Rattle.tcc_run.proofs.naming.all_name_keys.Given as goal

-- the keys so far are names
abbrev pub invariant-loop-txn : goal.invariant-loop-txn
invariant-loop-txn l = All NamesKeys (take l.txn-index l.txns)
