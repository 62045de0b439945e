-- the items so far
use Rattle.std.proofs.Common.{◌≡◌, take}
use Rattle.tcc_answer.proofs.copying.copied_list.Given as goal

abbrev pub invariant-loop-item : goal.invariant-loop-item
invariant-loop-item g l = l.copy.items ≡ take l.item-index l.items
