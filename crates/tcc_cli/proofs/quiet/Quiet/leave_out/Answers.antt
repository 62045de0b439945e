use Rattle.tcc_cli.proofs.OrderLines.{hidden_of, hidden_on, hidden_up}
use Rattle.tcc_cli.proofs.quiet.Quiet.leave_out.Goals as goal

pub loop-index-preserved : goal.loop-index-preserved
loop-index-preserved g c = record {
  kept = c.loop-index.invariant.kept;
  hidden = hidden_on c.args.bytes.now c.loop-index.index c.loop-index-test.true c.if-byte-eq10.false c.loop-index.invariant.hidden;
}

pub returns-then-byte-eq10-clause-shown : goal.returns-then-byte-eq10-clause-shown
returns-then-byte-eq10-clause-shown g c =
    hidden_of g.W.Write.contents c.args.self.now c.loop-index.self _ _ c.requires.line c.loop-index.invariant.kept
    (hidden_up c.args.bytes.now c.loop-index.index c.loop-index-test.true c.if-byte-eq10.true c.loop-index.invariant.hidden)
