-- The line has the lengths of a body.
use Rattle.tcc_requests.proofs.Turning.{of_line}
use Rattle.tcc_requests.proofs.turns.take_line.Goals as goal

pub returns-in-Some : goal.returns-in-Some
returns-in-Some g c =
    of_line c.args.line.now _ _ c.in-Some.lengths c.is_some.result _ _ c.asked_of-asked.result c.take_asked.result c.cut.ensures.front c.cut.ensures.back
    c.in-Some.ensures c.is_some.ensures c.asked_of-asked.ensures c.take_asked.ensures
