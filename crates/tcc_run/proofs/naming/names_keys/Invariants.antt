use Rattle.std.proofs.Common.{All, take}
use Rattle.tcc_explain.specs.Keys.{NamesKey}
use Rattle.tcc_run.proofs.naming.names_keys.Given as goal

-- the keys so far are names
abbrev pub invariant-loop-op : goal.invariant-loop-op
invariant-loop-op l = All NamesKey (take l.op-index l.ops)
