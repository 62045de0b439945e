use Rattle.std.proofs.Common.{◌<◌, All, sym, subst, ◌∙◌}
use Rattle.tcc_reads.specs.History.{History, count}
use Rattle.tcc_graph.specs.Levels.{judged}
use Rattle.tcc_reads.specs.Traced.{traced_history}
use Rattle.tcc_survey.specs.Circles.{IsCircle}
use Rattle.tcc_survey.specs.Contradictions.{AreContradicted, IsSurvey}
use Rattle.tcc_survey.specs.declared.surveyed.Surveyed.TheVariants as answer
use Rattle.tcc_survey_run.proofs.Circular.{circle_below}
use Rattle.tcc_survey_run.proofs.RunNotes.{listing_noted, nothing_noted}
use Rattle.tcc_survey_run.proofs.Runs.{circular, listed}
use Rattle.tcc_survey_run.proofs.running.answer_checkpoint.Goals as goal

pub returns-in-Listed-clause-said : goal.returns-in-Listed-clause-said
returns-in-Listed-clause-said g c =
    let s = c.args.snapshot.now in
    let j = judged (traced_history s) c.args.options.now.level in
    let is : IsSurvey j (answer.Listed c.in-Listed.found) = subst (IsSurvey j) c.in-Listed.is c.in-Ok.ensures.surveyed in
    listed c.args.options.now s _ c.deref-in-Listed.result.now _ _ c.say_found-code.result c.in-Ok.ensures.graph
    (is.0, subst (AreContradicted j) (sym c.deref-in-Listed.ensures.value) is.1) c.say_found-code.ensures

pub returns-in-Listed-clause-noted : goal.returns-in-Listed-clause-noted
returns-in-Listed-clause-noted g c =
    let s = c.args.snapshot.now in
    let j = judged (traced_history s) c.args.options.now.level in
    let is : IsSurvey j (answer.Listed c.in-Listed.found) = subst (IsSurvey j) c.in-Listed.is c.in-Ok.ensures.surveyed in
    listing_noted s c.say_found-code.result c.deref.result.now _ _ _ (c.deref.ensures.value ∙ c.in-Ok.ensures.faults) is.0 c.note_reads.ensures.each c.note_no_answer.ensures

pub returns-in_default-clause-noted : goal.returns-in_default-clause-noted
returns-in_default-clause-noted g c = nothing_noted c.args.snapshot.now c.print_memory.result _

pub returns-clause-noted : goal.returns-clause-noted
returns-clause-noted g c = nothing_noted c.args.snapshot.now c.say_circle.result _

pub say_circle-requires : goal.say_circle-requires
say_circle-requires g c =
    let h = traced_history c.args.snapshot.now in
    let j = judged h c.args.options.now.level in
    subst (λ (h : History). All (λ t. t < count h) c.deref-in-Circular.result.now) (sym c.in-Ok.ensures.graph)
    (circle_below h c.deref-in-Circular.result.now
    (subst (IsCircle h) (sym c.deref-in-Circular.ensures.value) (subst (IsSurvey j) c.in-Circular.is c.in-Ok.ensures.surveyed)))

pub returns-clause-said : goal.returns-clause-said
returns-clause-said g c =
    let s = c.args.snapshot.now in
    let h = traced_history s in
    let j = judged h c.args.options.now.level in
    circular c.args.options.now s _ c.deref-in-Circular.result.now _ _ c.say_circle.result c.in-Ok.ensures.graph
    (subst (IsCircle h) (sym c.deref-in-Circular.ensures.value) (subst (IsSurvey j) c.in-Circular.is c.in-Ok.ensures.surveyed)) c.say_circle.ensures
