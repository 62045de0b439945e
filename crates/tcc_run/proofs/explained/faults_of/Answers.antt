use Rattle.std.proofs.Common.{◌≡◌, [], inr, refl}
use Rattle.std.specs.Global.{Vec}
use Rattle.tcc_reads.specs.declared.fault.ReadFault.{ReadFault}
use Rattle.tcc_print.specs.Courses.{AreSaidFaults}
use Rattle.tcc_print.specs.declared.options.Options.{Options}
use Rattle.tcc_print.proofs.Statuses.{answer_apart}
use Rattle.tcc_run.specs.declared.outcome.Outcome.{Outcome}
use Rattle.tcc_run.specs.declared.outcome.Outcome.TheVariants as outcome
use Rattle.tcc_run.specs.private.Stages.{outcome_said}
use Rattle.tcc_run.proofs.explained.faults_of.Goals as goal

-- of an answer there are none
none_said : (options : Options) (o : Outcome) → ((faults : Vec ReadFault) → o ≡ outcome.Unresolved faults → ⊥) → AreSaidFaults options (outcome_said options o) []
none_said options (outcome.Unresolved faults) answers = absurd (answers faults refl)
none_said options (outcome.Tabled h a) answers = inr (answer_apart options.required a, refl)
none_said options (outcome.Bare h a) answers = inr (answer_apart options.required a, refl)
none_said options (outcome.Large h a claim) answers = inr (answer_apart options.required a, refl)

pub returns : goal.returns
returns c = λ options. rw c.new.ensures.items (none_said options c.args.outcome c.in_default.not-Unresolved)
