use Rattle.std.proofs.Common.{◌<◌, ◌+◌, ◌∙◌, ℕ, length, sym, subst, arith}
use Rattle.std.proofs.lemmas.List.{get_or_default, length-set}
use Rattle.tcc_reads.specs.History.{History}
use Rattle.tcc_graph.specs.Levels.{Judged, judged}
use Rattle.tcc_clocks.specs.declared.latest.TheConstants.{WIDE}
use Rattle.tcc_survey.specs.declared.called.Called.{Called}
use Rattle.tcc_survey.specs.declared.usual_name.UsualName.TheVariants.{CausalChain, ReadYourWrites}
use Rattle.tcc_survey.specs.private.Called.{IsCalledBefore, as_called}
use Rattle.tcc_survey.specs.private.Settled.{reading_of}
use Rattle.tcc_survey.proofs.FindLemmas.{cells_before, cells_rest}
use Rattle.tcc_survey.proofs.SeenLemmas.{have_room, reads_rise}
use Rattle.tcc_survey.proofs.calling.CallingSweep.call_each.Goals as goal

pub mark_reads-marked-requires-clause-room : goal.mark_reads-marked-requires-clause-room
mark_reads-marked-requires-clause-room c =
    let h : History = c.args.self.now.block.graph.now in
    let is = c.requires.sweep.block in
    have_room h is.numbered is.acyclic c.args.self.now.block.owners.now is.owned c.args.reads.now c.requires.reads (length h.sessions) (length c.loop-index.marks)
    (sym (c.loop-index.invariant.0 ∙ c.requires.room)) is.sessions

pub mark_reads-marked-requires-clause-rising : goal.mark_reads-marked-requires-clause-rising
mark_reads-marked-requires-clause-rising c =
    let h : History = c.args.self.now.block.graph.now in
    let is = c.requires.sweep.block in
    reads_rise h is.numbered is.acyclic c.args.self.now.block.owners.now is.owned c.args.reads.now c.requires.reads

pub call-requires-clause-one : goal.call-requires-clause-one
call-requires-clause-one c =
    let j : Judged = judged c.args.self.now.block.graph.now c.args.self.now.level in
    let all = c.loop-index.called in
    let i = c.loop-index.index in
    let inv = c.loop-index.invariant in
    let here : i < length c.loop-index.called = omega (arith, c.loop-index-test.true, inv.4) in
    subst (IsCalledBefore j c.args.self.now.block.from (reading_of c.args.reads.now i)) (get_or_default all i (as_called CausalChain 0) (as_called ReadYourWrites 0) here)
    (inv.6 i (omega arith) c.loop-index-test.true)

pub loop-index-preserved : goal.loop-index-preserved
loop-index-preserved c =
    let h : History = c.args.self.now.block.graph.now in
    let is = c.requires.sweep.block in
    let j : Judged = judged h c.args.self.now.level in
    let from = c.args.self.now.block.from in
    let reads = c.args.reads.now in
    let all = c.loop-index.called in
    let i = c.loop-index.index in
    let v = c.call.result in
    let inv = c.loop-index.invariant in
    let marked = c.mark_reads-marked in
    let P : ℕ → Called → Type 0 = λ k n. IsCalledBefore j (from + WIDE) (reading_of reads k) n in
    let Q : ℕ → Called → Type 0 = λ k n. IsCalledBefore j from (reading_of reads k) n in (
      marked.ensures.same ∙ inv.0,
      marked.ensures.upto.within,
      marked.ensures.marks,
      λ k less m above inside.
          let rises = reads_rise h is.numbered is.acyclic c.args.self.now.block.owners.now is.owned reads c.requires.reads i m (omega (arith, above)) inside in
          omega (arith, marked.ensures.upto.early k less, rises),
      length-set all i v ∙ inv.4,
      cells_before (as_called CausalChain 0) P Q all (length reads) i v inv.4 c.loop-index-test.true inv.5 inv.6 c.call.ensures,
      cells_rest (as_called CausalChain 0) P Q all (length reads) i v inv.4 c.loop-index-test.true inv.5 inv.6 c.call.ensures,
    )
