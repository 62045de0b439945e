use Rattle.std.proofs.Common.{ap, arith, sum_by}
use Rattle.std.specs.FinMap.{entries, len-entries}
use Rattle.std.proofs.lemmas.List.{take_all}
use Rattle.tcc_watch_run.proofs.Committed.{counted, part_size, sessions-more}
use Rattle.tcc_watch_run.proofs.counting.committed_of.Goals as goal

pub loop-i-preserved : goal.loop-i-preserved
loop-i-preserved c =
    let s = c.args.snapshot.now in
    omega (
      arith,
      c.in_ok-all.ensures,
      c.loop-i.invariant,
      sessions-more s c.loop-i.i (omega (arith, c.loop-i-test.true, c.sessions-i-end.ensures.value, len-entries s)),
    )

pub returns : goal.returns
returns c =
    let s = c.args.snapshot.now in
    omega (
      arith,
      c.loop-i.invariant,
      counted s,
      ap (sum_by part_size) (take_all c.loop-i.i (entries s) (omega (arith, c.loop-i-test.false, c.sessions-i-end.ensures.value, len-entries s))),
    )
