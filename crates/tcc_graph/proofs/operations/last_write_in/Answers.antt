use Rattle.std.proofs.Common.{◌≡◌, true, false, None, Some, rules, arith}
use Rattle.std.specs.Prelude.{slice_get}
use Rattle.tcc_reads.specs.Sources.{puts_at}
use Rattle.tcc_graph.proofs.Stepping.{none_past, put_elsewhere, put_here}
use Rattle.tcc_graph.proofs.operations.last_write_in.Goals as goal
use Rattle.tcc_graph.proofs.operations.last_write_in.Goals.{in-Some+then-puts_at, in-Some+else-puts_at, in_default}

pub loop-index-preserved : goal.loop-index-preserved
loop-index-preserved c =
    let x = c.args.key.now in
    let ops = c.args.txn.now.ops in
    let i = c.loop-index.index in
    elim c.match-op.branch [
      | in-Some+then-puts_at w ↦
          let at : slice_get c.args.txn.now.ops c.loop-index.index ≡ Some w.in-Some.op = search rules in
          let puts : puts_at c.args.key.now w.in-Some.op ≡ true = search rules in
          put_here x ops i w.in-Some.op c.loop-index.last _ at c.loop-index.invariant c.match-op.last w.last-is puts
      | in-Some+else-puts_at w ↦
          let at : slice_get c.args.txn.now.ops c.loop-index.index ≡ Some w.in-Some.op = search rules in
          let puts : puts_at c.args.key.now w.in-Some.op ≡ false = search rules in
          put_elsewhere x ops i w.in-Some.op c.loop-index.last _ at c.loop-index.invariant c.match-op.last w.last-is puts
      | in_default w ↦
          let none : slice_get c.args.txn.now.ops c.loop-index.index ≡ None = search rules in
          absurd (none_past ops i none (omega (arith, c.loop-index-test.true, c.len-index-end.ensures.value)))
    ]
