-- the objects so far
use Rattle.std.proofs.Common.{◌≡◌, ◌++◌, take, flat_map}
use Rattle.tcc_answer.specs.private.Pieces.{later_item}
use Rattle.tcc_answer.proofs.pieces.push_later.Given as goal

abbrev pub invariant-loop-item : goal.invariant-loop-item
invariant-loop-item g l = l.text.items ≡ l.initial.text.items ++ flat_map (later_item (g.O.Objects.json l.objects)) (take l.item-index l.items)
