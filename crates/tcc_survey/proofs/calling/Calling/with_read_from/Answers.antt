use Rattle.std.proofs.Common.{◌≡◌, ◌≢◌, ◌<◌, ◌+◌, ◌⊎◌, inl, inr, ℕ, sym, subst, arith}
use Rattle.std.proofs.lemmas.Bool.{cases_eq}
use Rattle.tcc_survey.specs.private.Calling.{IsBeforeAll, IsByWriter}
use Rattle.tcc_survey.proofs.BesideLemmas.{source_at}
use Rattle.tcc_survey.proofs.ManyLemmas.{fractured_met, listed_more}
use Rattle.tcc_survey.proofs.calling.Calling.with_read_from.Goals as goal

pub loop-read-init : goal.loop-read-init
loop-read-init c = record { called = c.requires.one; met = λ k l. absurd (omega (arith, l)) }

pub with_listed-best-requires-clause-one : goal.with_listed-best-requires-clause-one
with_listed-best-requires-clause-one c = c.loop-read.invariant.called

pub loop-read-preserved : goal.loop-read-preserved
loop-read-preserved c = record {
  called = c.with_listed-best.ensures.called;
  met = listed_more c.args.self.now c.requires.calling c.reads_at-read-items.result.now c.loop-read.read-index c.loop-read.best c.loop-read.invariant.met
      c.with_listed-best.result c.with_listed-best.ensures.kept c.with_listed-best.ensures.met;
}

pub returns-clause-called : goal.returns-clause-called
returns-clause-called c = c.loop-read.invariant.called

pub returns-clause-met : goal.returns-clause-met
returns-clause-met c =
    let s = c.args.self.now in
    let items = c.reads_at-read-items.result.now in
    fractured_met s c.requires.calling items (rw (← c.requires.calling.reader) c.reads_at-read-items.ensures.value) c.loop-read.read-index
    (omega (arith, c.loop-read-test.false)) c.loop-read.best c.loop-read.invariant.met
