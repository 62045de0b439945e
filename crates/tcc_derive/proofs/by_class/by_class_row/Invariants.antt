use Rattle.tcc_derive.specs.private.Classes.{ArePartedBelow}
use Rattle.tcc_derive.proofs.by_class.by_class_row.Given as goal

abbrev pub invariant-loop-cost : goal.invariant-loop-cost
invariant-loop-cost l = ArePartedBelow l.count l.first l.end l.others l.cost l.classes.items l.rest.items
