use Rattle.std.proofs.Common.{◌≡◌, ◌+◌, None, Some, drop, rules, arith}
use Rattle.std.specs.Prelude.{slice_get}
use Rattle.std.specs.List.{list_any}
use Rattle.tcc_rows.specs.Settling.{is_read_by}
use Rattle.tcc_txn.specs.Snapshots.{finished_at}
use Rattle.tcc_rows.proofs.PendingFacts.{begins, leaves-less, none-past}
use Rattle.tcc_rows.proofs.pending.strike_session.Goals as goal
use Rattle.tcc_rows.proofs.pending.strike_session.Goals.{in-Some+in_ok-strike_recorded, in_default}

pub loop-index-preserved : goal.loop-index-preserved
loop-index-preserved g c =
    let txns = finished_at c.args.snapshot.now c.args.i in
    let i = c.loop-index.index in
    elim c.match-recorded.branch [
      | in-Some+in_ok-strike_recorded w ↦
          let at : slice_get (finished_at c.args.snapshot.now c.args.i) c.loop-index.index ≡ Some w.in-Some.txn = search rules in
          rw w.values-is (leaves-less (λ w. list_any (is_read_by w) txns) (λ w. list_any (is_read_by w) (drop i txns)) (λ written. is_read_by written w.in-Some.txn)
          (λ w. list_any (is_read_by w) (drop (i + 1) txns)) c.args.values.now c.loop-index.values w.strike_recorded.new.values c.loop-index.invariant
          (λ written. begins (list_any (is_read_by written)) txns i w.in-Some.txn at) w.in_ok-strike_recorded.ensures)
      | in_default w ↦
          let none : slice_get (finished_at c.args.snapshot.now c.args.i) c.loop-index.index ≡ None = search rules in
          absurd (none-past txns c.loop-index.index none (omega (arith, c.loop-index-test.true, c.finished-index-end.ensures.value)))
    ]
