-- The links are those of the claim, and the history is that of the graph.
use Rattle.tcc_check.proofs.links.links_verdict.Goals as goal

pub returns : goal.returns
returns c = c.wrong_verdict.ensures c.args.graph.now c.args.claim.now (rw c.as_slice-links.ensures at c.in_ok-wrong.ensures)
