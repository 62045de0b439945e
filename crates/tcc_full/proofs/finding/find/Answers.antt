use Rattle.std.proofs.Common.{◌≡◌, ◌∙◌, [], subst, sym}
use Rattle.tcc_reads.specs.History.{History}
use Rattle.tcc_reads.specs.Refusals.{IsRefusal}
use Rattle.tcc_graph.specs.Levels.{judged}
use Rattle.tcc_answering.specs.Firsts.{IsFirst}
use Rattle.tcc_full.proofs.finding.find.Goals as goal

pub returns-in-Ok : goal.returns-in-Ok
returns-in-Ok g c =
    let is = c.in-Ok.ensures in
    (is.0, is.1, subst (λ (h : History). IsFirst (judged h c.args.level) c.in-Ok.answered.first) (sym is.1) is.2)

pub returns-in-Err-Reads : goal.returns-in-Err-Reads
returns-in-Err-Reads g c =
    let is = subst (IsRefusal c.args.snapshot.now) c.in-Err-Reads.field-0-is c.in-Err-Reads.ensures in
    ((λ none. is.1 (is.0 ∙ none)), is.0)
