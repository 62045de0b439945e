use Rattle.std.proofs.Common.{◌<◌, ◌∙◌, length, arith}
use Rattle.std.proofs.lemmas.List.{length-set}
use Rattle.tcc_order.proofs.Rising.{session_lifted, session_after}
use Rattle.tcc_order.proofs.causal_links.lift_sessions.Goals as goal

pub loop-column-preserved : goal.loop-column-preserved
loop-column-preserved c =
    let mid = c.loop-column.need in
    let n = c.loop-column.column in
    let inv = c.loop-column.invariant in
    let inside : n < length mid = omega (arith, c.loop-column-test.true, inv.0) in (
      length-set mid n c.lift_session.result ∙ inv.0,
      session_lifted c.args.need.now mid inside inv.1 inv.2 c.lift_session.ensures,
      session_after c.args.need.now mid inside inv.1 inv.2 c.lift_session.ensures,
    )
