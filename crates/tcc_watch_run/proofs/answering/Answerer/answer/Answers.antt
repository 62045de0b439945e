use Rattle.std.proofs.Common.{Bool, ap, subst, sym, ◌∙◌}
use Rattle.std.specs.Prelude.{IfOk}
use Rattle.tcc_txn.specs.Nested.{IsNested}
use Rattle.tcc_print.specs.Saying.{IsTold}
use Rattle.tcc_watch_run.specs.declared.answering.Answerer.{Answerer}
use Rattle.tcc_watch_run.specs.private.Stages.{course, follower_of, is_quiet}
use Rattle.tcc_watch_run.proofs.answering.Answerer.answer.Goals as goal

pub follow-requires-clause-nested : goal.follow-requires-clause-nested
follow-requires-clause-nested g c κs within =
    subst (λ (a : Answerer). IsNested (follower_of a).watch c.args.snapshot.now) c.in-Watch.is c.requires.nested

pub answer-requires-clause-nested : goal.answer-requires-clause-nested
answer-requires-clause-nested g c κs within =
    subst (λ (a : Answerer). IsNested (follower_of a).watch c.args.snapshot.now) c.in-Quiet.is c.requires.nested

pub returns-in-Watch-clause-told : goal.returns-in-Watch-clause-told
returns-in-Watch-clause-told g c quiet checkpoints is knows =
    subst (λ (b : Bool). IfOk c.follow.result (IsTold (course b c.args.run.now.options.now checkpoints) c.args.snapshot.now)) (sym (ap is_quiet c.in-Watch.is) ∙ is)
    (c.follow.ensures.told checkpoints knows)

pub returns-in-Quiet-clause-told : goal.returns-in-Quiet-clause-told
returns-in-Quiet-clause-told g c quiet checkpoints is knows =
    subst (λ (b : Bool). IfOk c.answer.result (IsTold (course b c.args.run.now.options.now checkpoints) c.args.snapshot.now)) (sym (ap is_quiet c.in-Quiet.is) ∙ is)
    (c.answer.ensures.told checkpoints knows)
