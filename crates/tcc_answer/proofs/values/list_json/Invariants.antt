-- the values so far
use Rattle.std.proofs.Common.{◌≡◌, map, take}
use Rattle.serde_json.specs.View.{view}
use Rattle.tcc_answer.proofs.values.list_json.Given as goal

abbrev pub invariant-loop-item : goal.invariant-loop-item
invariant-loop-item g l = map view l.list.items ≡ map (g.V.Values.json l.values) (take l.item-index l.items)
