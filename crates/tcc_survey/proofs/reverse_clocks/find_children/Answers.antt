use Rattle.std.proofs.Common.{rules, ◌≡◌, ◌∷◌, ◌++◌, []}
use Rattle.tcc_survey.proofs.FirstLemmas.{children_last, children_next}
use Rattle.tcc_survey.proofs.reverse_clocks.find_children.Goals as goal

pub returns-in_ok-push-in-Some : goal.returns-in_ok-push-in-Some
returns-in_ok-push-in-Some c =
    let readers = c.readings_at.result.0.now in
    let next = c.in-Some.next in
    let pushed : c.push.new.self.items ≡ readers ++ next ∷ [] = search rules in
    rw pushed
    (children_next c.args.graph.now c.args.a readers c.readings_at.result.1.now c.readings_at.ensures next c.in-Some.ensures.0 c.in-Some.ensures.1)

pub returns-in-None : goal.returns-in-None
returns-in-None c =
    let readers = c.readings_at.result.0.now in
    let same : c.extend_from_slice.new.self.items ≡ readers = search rules in
    rw same (children_last c.args.graph.now c.args.a readers c.readings_at.result.1.now c.readings_at.ensures c.in-None.ensures)
