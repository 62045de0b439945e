-- One more row, or the end.
use Rattle.std.proofs.Common.{◌∙◌}
use Rattle.tcc_check.proofs.ClocksBehind.{clocks-all, clocks-on}
use Rattle.tcc_check.proofs.coming.clock_rows.Goals as goal

pub returns-in-End : goal.returns-in-End
returns-in-End g c ahead is =
    let now = c.parts.invariant.rows ahead is in
    let taken = rw c.in-End.is at (c.in_ok-given.ensures.parts now.0 now.2) in
    let all = clocks-all c.parts.clocks.items ahead now.0 taken.0 now.1 taken.1 in
    (all.0, λ rows same. c.new.ensures ∙ all.1 rows same)

pub parts-preserved : goal.parts-preserved
parts-preserved g c = record {
  begun = c.next_part.ensures.begun;
  rows = λ ahead is.
      let now = c.parts.invariant.rows ahead is in
      let taken = c.in_ok-given.ensures.parts now.0 now.2 in (
        taken.0,
        clocks-on c.parts.clocks.items c.keep_clocks.new.clocks.items c.in_ok-given.given ahead now.0 taken.0 c.in_default.not-End
            c.in_ok-keep_clocks.ensures.row c.in_ok-keep_clocks.ensures.other now.1 taken.1,
        taken.2,
      );
}
