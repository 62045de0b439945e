use Rattle.std.proofs.Common.{◌≡◌, ◌∷◌, ◌++◌, [], ℕ, slice_index, arith}
use Rattle.std.specs.Prelude.{List}
use Rattle.tcc_survey.specs.declared.external_reads.Reading.{Reading}
use Rattle.tcc_survey.specs.private.Settled.{reading_of}
use Rattle.tcc_survey.proofs.CallingLemmas.{chosen_more, chosen_passed}
use Rattle.tcc_survey.proofs.calling.chosen_reads.Goals as goal
use Rattle.tcc_survey.proofs.calling.chosen_reads.Goals.{then-found-index-gt0+in_ok-push, else-found-index-gt0}

pub loop-index-preserved : goal.loop-index-preserved
loop-index-preserved c =
    let reads : List Reading = c.args.reads.now in
    let found : List ℕ = c.args.found.now in
    let n = c.loop-index.index in
    let chosen : List Reading = c.loop-index.chosen.items in
    let inv = c.loop-index.invariant in
    elim c.if-found-index-gt0.branch [
      | then-found-index-gt0+in_ok-push w ↦ (
          let pushed : w.push.new.self.items ≡ chosen ++ reading_of reads n ∷ [] = w.in_ok-push.ensures.items in
          rw (w.chosen-is, pushed) (chosen_more reads found n chosen inv)
          )
      | else-found-index-gt0 w ↦ (
          let none : slice_index found n ≡ 0 = omega (arith, w.if-found-index-gt0.false) in
          rw w.chosen-is (chosen_passed reads found n chosen inv none)
          )
    ]
