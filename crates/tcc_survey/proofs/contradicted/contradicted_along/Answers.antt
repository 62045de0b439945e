use Rattle.std.proofs.Common.{◌≡◌, ◌<◌, ◌∷◌, ◌++◌, ◌∙◌, [], length, sym, ap, subst, arith}
use Rattle.std.specs.Prelude.{List}
use Rattle.std.proofs.lemmas.List.{get_or_default}
use Rattle.tcc_reads.specs.History.{count}
use Rattle.tcc_graph.specs.Levels.{Judged, judged}
use Rattle.tcc_survey.specs.declared.called.Called.{Called}
use Rattle.tcc_survey.specs.declared.external_reads.Reading.{Reading}
use Rattle.tcc_survey.specs.private.Called.{AreCalled, called_at}
use Rattle.tcc_survey.specs.private.Listed.{AreReadsUpTo}
use Rattle.tcc_survey.specs.private.Settled.{reading_of}
use Rattle.tcc_survey.proofs.ChosenLemmas.{chosen_none, chosen_passed, chosen_more, chosen_all}
use Rattle.tcc_survey.proofs.contradicted.contradicted_along.Goals as goal
use Rattle.tcc_survey.proofs.contradicted.contradicted_along.Goals.{then-writer-gt0+in_ok-push, else-writer-gt0}

pub loop-index-init : goal.loop-index-init
loop-index-init g c =
    let j : Judged = judged c.args.graph.now c.args.level in
    rw c.new-list.ensures.items (chosen_none j c.deref-read-items.result.now)

pub loop-index-preserved : goal.loop-index-preserved
loop-index-preserved g c =
    let h = c.args.graph.now in
    let j : Judged = judged h c.args.level in
    let reads : List Reading = c.deref-read-items.result.now in
    let n = c.loop-index.index in
    let list = c.loop-index.list.items in
    let inv = c.loop-index.invariant in
    let called : List Called = c.in_ok-called.called.items in
    let listed : AreReadsUpTo h (count h) 0 reads = rw c.deref-read-items.ensures.value c.in_ok-reads.ensures in
    let are : AreCalled j reads called = rw (c.deref-read-items.ensures.value, ← c.deref.ensures.value) c.in_ok-called.ensures in
    let inside : n < length called = omega (arith, c.loop-index-test.true, are.long) in
    let same : c.index.result.now ≡ called_at called n = c.index.ensures ∙ get_or_default called n c.index.result.now (called_at [] 0) inside in
    elim c.if-writer-gt0.branch [
      | then-writer-gt0+in_ok-push w ↦ (
          let some : 0 < (called_at called n).writer = rw (← ap (λ (z : Called). z.writer) same) w.if-writer-gt0.true in
          let pushed : w.push.new.self.items
          ≡ list ++ (record { reading = reading_of reads n; name = c.index.result.now.name; writer = c.index.result.now.writer }) ∷ [] = w.in_ok-push.ensures.items in
          let moved : w.push.new.self.items
          ≡ list ++ (record { reading = reading_of reads n; name = (called_at called n).name; writer = (called_at called n).writer }) ∷ []
          = subst (λ (z : Called). w.push.new.self.items ≡ list ++ (record { reading = reading_of reads n; name = z.name; writer = z.writer }) ∷ []) same pushed in
          rw (w.list-is, moved) (chosen_more j reads listed called are n c.loop-index-test.true list inv some)
          )
      | else-writer-gt0 w ↦ (
          let none : (called_at called n).writer ≡ 0 = sym (ap (λ (z : Called). z.writer) same) ∙ omega (arith, w.if-writer-gt0.false) in
          rw w.list-is (chosen_passed j reads listed called are n c.loop-index-test.true list inv none)
          )
    ]

pub returns : goal.returns
returns g c =
    let h = c.args.graph.now in
    let j : Judged = judged h c.args.level in
    let reads : List Reading = c.deref-read-items.result.now in
    let listed : AreReadsUpTo h (count h) 0 reads = rw c.deref-read-items.ensures.value c.in_ok-reads.ensures in
    chosen_all j reads listed c.loop-index.index (omega (arith, c.loop-index-test.false)) c.loop-index.list.items c.loop-index.invariant
