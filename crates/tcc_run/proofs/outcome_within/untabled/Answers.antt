use Rattle.std.proofs.Common.{◌∙◌, subst}
use Rattle.tcc_reads.specs.Refusals.{IsRefusal}
use Rattle.tcc_run.proofs.outcome_within.untabled.Goals as goal

pub returns-in-Err-Reads-clause-outcome : goal.returns-in-Err-Reads-clause-outcome
returns-in-Err-Reads-clause-outcome g c =
    let is = subst (IsRefusal c.args.snapshot.now) c.in-Err-Reads.field-0-is c.in-Err-Reads.ensures in
    rw c.in-Err-Reads.field-0-is ((λ none. is.1 (is.0 ∙ none)), is.0)
