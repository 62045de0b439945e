use Rattle.std.proofs.Common.{◌<◌, ◌+◌, All, take, sym, subst}
use Rattle.std.specs.List.{AllZip}
use Rattle.std.proofs.lemmas.List.Elements.{All-push}
use Rattle.std.proofs.lemmas.List.Sorted.{All-permutation}
use Rattle.tcc_reads.specs.History.{count}
use Rattle.tcc_graph.specs.Levels.{judged}
use Rattle.tcc_survey_run.specs.Told.{IsToldOf}
use Rattle.tcc_survey_run.specs.declared.told.ToldRead.{ToldRead}
use Rattle.tcc_survey_run.proofs.Numbers.{told_below, told_more}
use Rattle.tcc_survey_run.proofs.told.told_reads.Goals as goal

pub loop-one-preserved : goal.loop-one-preserved
loop-one-preserved g c =
    let s = c.args.snapshot.now in
    let h = c.args.graph.now in
    let found = c.args.found.now in
    let k = c.loop-one.one-index in
    let told = c.loop-one.told.items in
    let IsIn : ToldRead → Type 0 = λ one. (one.reader < count h) × (one.writer < count h) in
    record {
      each = subst (λ all. AllZip (IsToldOf s h) (take (k + 1) found) all) (sym c.in_ok-push.ensures.items)
          (told_more s h found k _ told c.told_of.result c.loop-one-test.true c.loop-one.invariant.each c.told_of.ensures);
      inside = subst (All IsIn) (sym c.in_ok-push.ensures.items)
          (All-push IsIn told c.told_of.result c.loop-one.invariant.inside
          (told_below (judged h c.requires.found.0) found c.requires.initial c.requires.found.1 k _ c.loop-one-test.true
          c.told_of.result.reader c.told_of.result.writer c.told_of.ensures.reader c.told_of.ensures.writer));
    }

pub returns-clause-inside : goal.returns-clause-inside
returns-clause-inside g c =
    let IsIn : ToldRead → Type 0 = λ one. (one.reader < count c.args.graph.now) × (one.writer < count c.args.graph.now) in
    All-permutation IsIn c.loop-one.told.items c.by_operation.result.items c.by_operation.ensures.permutation c.loop-one.invariant.inside
