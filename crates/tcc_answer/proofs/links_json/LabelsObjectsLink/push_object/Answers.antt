-- a derived link has its head, its walk and a bracket
use Rattle.std.proofs.lemmas.Result.{on_ok_weaker}
use Rattle.tcc_answer.proofs.JsonPieces.{derived_behind}
use Rattle.tcc_answer.proofs.links_json.LabelsObjectsLink.push_object.Goals as goal

pub returns-in_ok-push_objects-in-Derived : goal.returns-in_ok-push_objects-in-Derived
returns-in_ok-push_objects-in-Derived c =
    let it = c.in-Derived in
    on_ok_weaker c.push.result
    (derived_behind c.args.self.now c.args.link.now it.from it.to it.key it.reader it.walk it.is c.from-from.result c.to-to.result c.from-from.ensures c.to-to.ensures
    c.args.text.now.items c.push_head.new.text.items c.push_objects.new.text.items c.push.new.text.items
    c.in_ok-push_head-in-Derived.ensures (rw c.as_slice.ensures at c.in_ok-push_objects-in-Derived.ensures)) c.push.ensures
