use Rattle.std.proofs.Common.{◌≡◌, ◌∙◌, None, Some, rules, arith}
use Rattle.std.specs.Option.{option_or}
use Rattle.std.specs.Prelude.{slice_get}
use Rattle.tcc_reads.specs.Sources.{value_put}
use Rattle.tcc_graph.proofs.Stepping.{none_past, seen_more}
use Rattle.tcc_graph.proofs.operations.visible_write.Goals as goal
use Rattle.tcc_graph.proofs.operations.visible_write.Goals.{in-Some, in_default}

pub loop-index-preserved : goal.loop-index-preserved
loop-index-preserved c =
    let ops = c.args.txn.now.ops in
    let i = c.loop-index.index in
    elim c.match-op.branch [
      | in-Some w ↦
          let at : slice_get c.args.txn.now.ops c.loop-index.index ≡ Some w.in-Some.op = search rules in
          let next : w.or-visible.result ≡ option_or (value_put c.args.key.now w.in-Some.op) c.loop-index.visible = search rules in
          seen_more c.args.key.now ops i w.in-Some.op c.loop-index.visible c.match-op.visible _ at c.loop-index.invariant (w.visible-is ∙ next)
      | in_default w ↦
          let none : slice_get c.args.txn.now.ops c.loop-index.index ≡ None = search rules in
          absurd (none_past ops i none (omega (arith, c.loop-index-test.true, c.len-index-end.ensures.value)))
    ]
