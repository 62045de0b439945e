use Rattle.std.proofs.Common.{List, ℕ, get_or, take, sym, subst}
use Rattle.std.proofs.lemmas.List.{get_or_default, take_more}
use Rattle.tcc_graph.specs.Levels.{Judged, judged}
use Rattle.tcc_survey.specs.private.Called.{IsCalledAmong}
use Rattle.tcc_survey.proofs.calling.Calling.with_each.Goals as goal

pub with_writer-best-requires-clause-writer : goal.with_writer-best-requires-clause-writer
with_writer-best-requires-clause-writer c =
    let among = c.args.among.now in
    let k = c.loop-b.b-index in
    let b : ℕ = get_or among k 0 in
    c.requires.writers b (k, c.loop-b-test.true, get_or_default among k b 0 c.loop-b-test.true)

pub loop-b-preserved : goal.loop-b-preserved
loop-b-preserved c =
    let s = c.args.self.now in
    let j : Judged = judged s.knowledge.graph.now s.level in
    let among = c.args.among.now in
    let k = c.loop-b.b-index in
    subst (λ (ws : List ℕ). IsCalledAmong j s.from ws s.reading c.with_writer-best.result) (sym (take_more among k 0 c.loop-b-test.true))
    (c.with_writer-best.ensures.called (take k among) c.loop-b.invariant)
