use Rattle.std.proofs.Common.{◌<◌, ℕ, inr, [], ◌∷◌, slice_index, refl, arith}
use Rattle.std.specs.List.{Contains}
use Rattle.std.proofs.lemmas.Bool.{false≢true}
use Rattle.std.proofs.lemmas.List.{get_or_default}
use Rattle.tcc_reads.specs.History.{count}
use Rattle.tcc_graph.specs.Keys.{key_at}
use Rattle.tcc_graph.proofs.WriterLemmas.{writer_writes}
use Rattle.tcc_survey.specs.private.Calling.{IsCalling}
use Rattle.tcc_survey.specs.private.Settled.{AreWritersIn}
use Rattle.tcc_survey.specs.declared.calling.Calling.{Calling}
use Rattle.tcc_survey.proofs.BesideLemmas.{there_at}
use Rattle.tcc_survey.proofs.ManyLemmas.{first_met, none_beyond, early_or, none_left, passed_more, so_far, writer_below}
use Rattle.tcc_survey.proofs.calling.Calling.with_first.Goals as goal

pub is_reached_on-requires-clause-inside : goal.is_reached_on-requires-clause-inside
is_reached_on-requires-clause-inside c =
    writer_below c.args.self.now c.requires.calling c.args.among.now c.requires.among c.loop-index.index c.loop-index-test.true

pub is_beyond-requires-clause-inside : goal.is_beyond-requires-clause-inside
is_beyond-requires-clause-inside c =
    writer_below c.args.self.now c.requires.calling c.args.among.now c.requires.among c.loop-index.index c.loop-index-test.true

pub with_writer-requires-clause-writer : goal.with_writer-requires-clause-writer
with_writer-requires-clause-writer c =
    let b : ℕ = slice_index c.args.among.now c.loop-index.index in
    c.requires.among.listed b (there_at c.args.among.now b c.loop-index.index c.loop-index-test.true refl)

pub returns-then-is_reached_on-clause-called : goal.returns-then-is_reached_on-clause-called
returns-then-is_reached_on-clause-called c =
    let b : ℕ = slice_index c.args.among.now c.loop-index.index in
    so_far c.args.self.now c.requires.calling (b ∷ []) c.with_writer.result (c.with_writer.ensures.called [] c.requires.one)

pub returns-then-is_reached_on-clause-met : goal.returns-then-is_reached_on-clause-met
returns-then-is_reached_on-clause-met c =
    let b : ℕ = slice_index c.args.among.now c.loop-index.index in
    let w = c.if-is_reached_on.ensures.0 refl in
    first_met c.args.self.now c.requires.calling c.args.among.now c.requires.among c.args.lane c.requires.lane c.loop-index.index c.loop-index-test.true
    c.loop-index.invariant b refl w.0 w.1 w.2 c.with_writer.result (c.with_writer.ensures.called [] c.requires.one)

pub returns-then-is_beyond-clause-kept : goal.returns-then-is_beyond-clause-kept
returns-then-is_beyond-clause-kept c = inr (refl, omega arith)

pub returns-then-is_beyond-clause-met : goal.returns-then-is_beyond-clause-met
returns-then-is_beyond-clause-met c =
    none_beyond c.args.self.now c.requires.calling c.args.among.now c.requires.among c.args.lane c.requires.lane c.loop-index.index c.loop-index-test.true
    c.loop-index.invariant (c.if-is_beyond.ensures.0 refl) c.args.one

pub loop-index-preserved : goal.loop-index-preserved
loop-index-preserved c =
    passed_more c.args.self.now c.requires.calling c.args.among.now c.requires.among c.args.lane c.requires.lane c.loop-index.index c.loop-index.invariant
    (λ some mine. early_or (slice_index c.args.self.now.first.now c.args.lane) (slice_index c.args.among.now c.loop-index.index) (λ reached. false≢true (c.if-is_reached_on.ensures.1 (some, reached, mine))))

pub returns-clause-kept : goal.returns-clause-kept
returns-clause-kept c = inr (refl, omega arith)

pub returns-clause-met : goal.returns-clause-met
returns-clause-met c =
    none_left c.args.self.now c.requires.calling c.args.among.now c.requires.among c.args.lane c.requires.lane c.loop-index.index
    (omega (arith, c.loop-index-test.false)) c.loop-index.invariant c.args.one
