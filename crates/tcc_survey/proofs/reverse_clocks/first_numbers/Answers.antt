use Rattle.std.proofs.Common.{◌≡◌, ◌<◌, ◌≤◌, ◌+◌, ◌∙◌, ℕ, length, slice_index, arith}
use Rattle.std.proofs.lemmas.List.{length-set}
use Rattle.tcc_clocks.specs.declared.latest.TheConstants.{WIDE}
use Rattle.tcc_survey.proofs.FindLemmas.{cells_before}
use Rattle.tcc_survey.proofs.reverse_clocks.first_numbers.Goals as goal

pub loop-lane-preserved : goal.loop-lane-preserved
loop-lane-preserved c =
    let row = c.loop-lane.row in
    let lane = c.loop-lane.lane in
    let inv = c.loop-lane.invariant in (
      length-set row lane c.first_number.result ∙ inv.0,
      cells_before 0 (λ k v. (b : ℕ) → b < length c.args.owners.now → slice_index c.args.owners.now b ≡ c.args.from + k → v ≤ b) (λ k v. Unit {0})
          row WIDE lane c.first_number.result inv.0 c.loop-lane-test.true inv.1 (λ k above l. tt) c.first_number.ensures,
    )

pub returns : goal.returns
returns c = record {
  wide = c.loop-lane.invariant.0;
  each = λ k l. c.loop-lane.invariant.1 k (omega (arith, l, c.loop-lane-test.false));
}
