use Rattle.std.proofs.Common.{arith}
use Rattle.tcc_order.proofs.Needing.{begun_on}
use Rattle.tcc_order.proofs.causal_links.begin_session.Goals as goal

pub returns-then-before_in_session-gt0-clause-begun : goal.returns-then-before_in_session-gt0-clause-begun
returns-then-before_in_session-gt0-clause-begun c =
    begun_on c.args.owners.now c.args.a c.before_in_session.result c.args.run.now (omega arith) c.before_in_session.ensures.own
