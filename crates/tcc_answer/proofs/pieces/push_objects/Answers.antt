-- the first object, those after it, and the bracket
use Rattle.std.proofs.Common.{rules, append_assoc}
use Rattle.std.proofs.lemmas.Result.{IfOk-equal}
use Rattle.tcc_answer.proofs.JsonPieces.{all_items}
use Rattle.tcc_answer.proofs.pieces.push_objects.Goals as goal

pub returns : goal.returns
returns g c =
    rw (c.in-Some.ensures.cases.0, all_items (g.O.Objects.json c.args.objects.now) c.in-Some.first.now c.in-Some.others.now) (search (rules, IfOk-equal, append_assoc))
