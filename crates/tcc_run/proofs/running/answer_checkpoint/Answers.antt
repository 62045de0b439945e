-- What was said last is said again; where something was finished since, a new answer is said.
use Rattle.std.proofs.Common.{◌≢◌, ◌∙◌, subst}
use Rattle.std.specs.Prelude.{IfSome}
use Rattle.tcc_print.proofs.Saying.{says_at, says_still}
use Rattle.tcc_run.specs.private.Stages.{course}
use Rattle.tcc_run.proofs.running.answer_checkpoint.Goals as goal

pub returns-in-Ok-clause-said : goal.returns-in-Ok-clause-said
returns-in-Ok-clause-said g c =
    says_still (course g.B.Bounds.limits c.args.run.now.options.now) c.args.checkpoint c.args.snapshot.now c.args.last c.in-Ok.last _ _ c.print_unchanged.result c.in-Ok.ensures.0
    (c.print_unchanged.ensures.said (c.in-Ok.ensures.1 ∙ c.transactions.ensures.value))

pub returns-in-Err-clause-said : goal.returns-in-Err-clause-said
returns-in-Err-clause-said g c =
    says_at (course g.B.Bounds.limits c.args.run.now.options.now) c.args.checkpoint c.args.snapshot.now c.args.last _ _ c.print_new.result
    (subst (λ n. IfSome c.args.last (λ last. last.transactions ≢ n)) c.transactions.ensures.value c.in-Err.ensures.1)
    (c.print_new.ensures.said c.decide-decided.ensures.told)
