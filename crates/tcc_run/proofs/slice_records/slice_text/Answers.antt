-- The graph is the snapshot's, and the links are a cycle of it.
use Rattle.std.proofs.Common.{◌≡◌, Some, ap, subst, sym, ◌∙◌}
use Rattle.tcc_run.specs.private.Stages.{IsOutcome, outcome_links}
use Rattle.tcc_run.specs.declared.outcome.Outcome.{Outcome}
use Rattle.tcc_run.proofs.Outcomes.{links_cycle, nothing}
use Rattle.tcc_run.proofs.slice_records.slice_text.Goals as goal

pub returns-in-Tabled : goal.returns-in-Tabled
returns-in-Tabled g c = λ is has.
    let w = links_cycle c.args.level c.args.snapshot.now c.args.outcome.now c.args.links.now is has in
    c.text_of.ensures (c.get.ensures ∙ (subst (λ (o : Outcome). IsOutcome c.args.level c.args.snapshot.now o) c.in-Tabled.is is).2) w.0 w.1

pub returns-in-Bare : goal.returns-in-Bare
returns-in-Bare g c = λ is has.
    let w = links_cycle c.args.level c.args.snapshot.now c.args.outcome.now c.args.links.now is has in
    c.text_of-in-Bare.ensures (c.get-in-Bare.ensures ∙ (subst (λ (o : Outcome). IsOutcome c.args.level c.args.snapshot.now o) c.in-Bare.is is).2) w.0 w.1

pub returns-in-Large : goal.returns-in-Large
returns-in-Large g c = λ is has.
    let w = links_cycle c.args.level c.args.snapshot.now c.args.outcome.now c.args.links.now is has in
    c.text_of-in-Large.ensures (c.get-in-Large.ensures ∙ (subst (λ (o : Outcome). IsOutcome c.args.level c.args.snapshot.now o) c.in-Large.is is).2) w.0 w.1

pub returns-in-Unresolved : goal.returns-in-Unresolved
returns-in-Unresolved g c = λ is has. absurd (nothing c.args.links.now (sym (ap outcome_links c.in-Unresolved.is) ∙ has))
