use Rattle.std.proofs.Common.{◌∙◌, sym, arith}
use Rattle.std.proofs.lemmas.Bool.{false≢true}
use Rattle.tcc_lanes.proofs.FeedbackLemmas.{least_more, least_none, least_same, none_at, rows_below, some_at}
use Rattle.tcc_lanes.proofs.cycle_among.least_around.Goals.{then-is_start+in_ok-least, else-is_start}
use Rattle.tcc_lanes.proofs.cycle_among.least_around.Goals as goal

pub loop-start-init : goal.loop-start-init
loop-start-init c = record { within = omega arith; each = λ j members are ascending. least_none j members c.args.most _ }

pub loop-start-preserved : goal.loop-start-preserved
loop-start-preserved c =
    let now = c.loop-start in
    elim c.if-is_start.branch [
      | then-is_start+in_ok-least w ↦ rw w.least-is (record {
        within = omega (arith, now.invariant.within, w.in_ok-least.ensures.within);
        each = λ j members are ascending.
            least_more j members c.args.most _ now.start now.least (now.invariant.each j members are ascending) w.in_ok-least.least
            (w.in_ok-least.ensures.each j members (rows_below j members c.args.most now.least _ c.args.rows.now now.invariant.within are) ascending);
      })
      | else-is_start w ↦ rw w.least-is (record {
        within = now.invariant.within;
        each = λ j members are ascending.
            least_same j members c.args.most _ now.start now.least (now.invariant.each j members are ascending) (λ is. false≢true (sym w.if-is_start.false ∙ is));
      })
    ]

pub returns-clause-each : goal.returns-clause-each
returns-clause-each c = λ j members are ascending.
    let now = c.loop-start in
    let w = now.invariant.each j members are ascending in (
      none_at j members c.args.most _ now.start now.least w c.args.rows.now (omega (arith, c.ranges.most.fits)) are ascending
          (rw c.deref-is_start-items.ensures.value c.in_ok-starts.ensures) c.loop-start-test.false,
      some_at j members c.args.most _ now.start now.least w,
    )
