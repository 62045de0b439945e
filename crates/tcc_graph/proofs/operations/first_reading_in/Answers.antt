use Rattle.std.proofs.Common.{◌≡◌, ◌∙◌, true, false, None, Some, rules, arith}
use Rattle.std.specs.Prelude.{slice_get}
use Rattle.tcc_graph.specs.Operations.{reads_value}
use Rattle.tcc_graph.proofs.Stepping.{none_past, reads_here, reads_later}
use Rattle.tcc_graph.proofs.operations.first_reading_in.Goals as goal
use Rattle.tcc_graph.proofs.operations.first_reading_in.Goals.{in-Some+else-reads_value, in_default}

pub returns-then-reads_value-clause-first : goal.returns-then-reads_value-clause-first
returns-then-reads_value-clause-first c =
    let at : slice_get c.args.txn.now.ops c.loop-index.index ≡ Some c.in-Some.op = search rules in
    let reads : reads_value c.args.key.now c.args.value c.in-Some.op ≡ true = search rules in
    reads_here c.args.key.now c.args.value c.args.txn.now.ops c.loop-index.index c.in-Some.op at reads ∙ c.loop-index.invariant

pub loop-index-preserved : goal.loop-index-preserved
loop-index-preserved c = elim c.match-op.branch [
  | in-Some+else-reads_value w ↦
      let at : slice_get c.args.txn.now.ops c.loop-index.index ≡ Some w.in-Some.op = search rules in
      let other : reads_value c.args.key.now c.args.value w.in-Some.op ≡ false = search rules in
      reads_later c.args.key.now c.args.value c.args.txn.now.ops c.loop-index.index w.in-Some.op at other ∙ c.loop-index.invariant
  | in_default w ↦
      let none : slice_get c.args.txn.now.ops c.loop-index.index ≡ None = search rules in
      absurd (none_past c.args.txn.now.ops c.loop-index.index none (omega (arith, c.loop-index-test.true, c.len-index-end.ensures.value)))
]
