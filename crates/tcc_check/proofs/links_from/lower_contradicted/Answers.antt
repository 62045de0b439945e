-- `init` writes every key, and others the keys at their indices.
use Rattle.std.proofs.Common.{arith}
use Rattle.tcc_check.proofs.ByKey.{written-written}
use Rattle.tcc_check.proofs.LinksFrom.{init-contradicts}
use Rattle.tcc_check.proofs.links_from.lower_contradicted.Goals as goal

pub returns-then-start-eq0 : goal.returns-then-start-eq0
returns-then-start-eq0 c =
    rw c.if-start-eq0.true (init-contradicts c.args.graph.now c.args.row.now c.args.weights.now c.lower_sources.new.weights
    (omega (arith, c.requires.start)) c.lower_sources.ensures)

pub returns-else-start-eq0 : goal.returns-else-start-eq0
returns-else-start-eq0 c =
    written-written c.args.graph.now c.writes_at-written.result.now c.args.row.now c.args.start c.args.weights.now c.lower_keys.new.weights
    c.if-start-eq0.false c.requires.start c.writes_at-written.ensures.value c.lower_keys.ensures
