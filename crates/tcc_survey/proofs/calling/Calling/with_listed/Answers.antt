use Rattle.std.proofs.Common.{inr, [], ◌∷◌, refl, arith}
use Rattle.std.proofs.lemmas.Bool.{false≢true}
use Rattle.tcc_survey.proofs.ManyLemmas.{one_met, so_far, unlisted_met}
use Rattle.tcc_survey.proofs.calling.Calling.with_listed.Goals as goal

pub with_writer-requires-clause-writer : goal.with_writer-requires-clause-writer
with_writer-requires-clause-writer c = c.requires.among.listed c.args.b (c.if-is_among.ensures.0 refl)

pub returns-then-is_among-clause-called : goal.returns-then-is_among-clause-called
returns-then-is_among-clause-called c =
    so_far c.args.self.now c.requires.calling (c.args.b ∷ []) c.with_writer.result (c.with_writer.ensures.called [] c.requires.one)

pub returns-then-is_among-clause-met : goal.returns-then-is_among-clause-met
returns-then-is_among-clause-met c =
    one_met c.args.self.now c.requires.calling c.args.b c.with_writer.result (c.with_writer.ensures.called [] c.requires.one)

pub returns-else-is_among-clause-kept : goal.returns-else-is_among-clause-kept
returns-else-is_among-clause-kept c = inr (refl, omega arith)

pub returns-else-is_among-clause-met : goal.returns-else-is_among-clause-met
returns-else-is_among-clause-met c =
    unlisted_met c.args.self.now c.requires.calling c.args.among.now c.requires.among c.args.b (λ there. false≢true (c.if-is_among.ensures.1 there)) c.args.one
