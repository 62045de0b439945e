use Rattle.std.proofs.Common.{◌≡◌, [], ap, arith, drop, ◌+◌}
use Rattle.std.specs.FinMap as map
use Rattle.std.specs.List.{list_any}
use Rattle.tcc_rows.specs.Settling.{is_read, is_read_by, is_read_in}
use Rattle.tcc_txn.specs.Snapshots.{finished_at}
use Rattle.tcc_rows.proofs.PendingFacts.{any-session, drop-past, leaves-less, leaves-none}
use Rattle.tcc_rows.proofs.pending.strike_all.Goals as goal

pub loop-i-preserved : goal.loop-i-preserved
loop-i-preserved g c =
    let es = map.entries c.args.snapshot.now in
    leaves-less (is_read c.args.snapshot.now) (λ w. list_any (is_read_in w) (drop c.loop-i.i es)) (λ w. list_any (is_read_by w) (finished_at c.args.snapshot.now c.loop-i.i))
    (λ w. list_any (is_read_in w) (drop (c.loop-i.i + 1) es)) c.args.values.now c.loop-i.values c.strike_session.new.values c.loop-i.invariant
    (λ w. any-session w es c.loop-i.i
    (omega (arith, c.loop-i-test.true, c.sessions-i-end.ensures.value, map.len-entries c.args.snapshot.now)))
    c.in_ok-strike_session.ensures

pub returns : goal.returns
returns g c =
    let es = map.entries c.args.snapshot.now in
    let none : drop c.loop-i.i es ≡ []
    = drop-past es c.loop-i.i (omega (arith, c.loop-i-test.false, c.sessions-i-end.ensures.value, map.len-entries c.args.snapshot.now)) in
    leaves-none (is_read c.args.snapshot.now) (λ w. list_any (is_read_in w) (drop c.loop-i.i es)) c.args.values.now c.loop-i.values c.loop-i.invariant
    (λ w. ap (list_any (is_read_in w)) none)
