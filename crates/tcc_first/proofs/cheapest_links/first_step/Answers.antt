use Rattle.std.proofs.Common.{sym, ◌∙◌}
use Rattle.tcc_derive.proofs.StepLemmas.{session_step, reads_step}
use Rattle.tcc_first.proofs.CheapestLemmas.{some_reads}
use Rattle.tcc_first.proofs.cheapest_links.first_step.Goals as goal

pub returns-then-session : goal.returns-then-session
returns-then-session c = session_step c.args.graph.now c.args.from c.args.to (sym c.session.ensures ∙ c.if-session.true)

pub first_key-key-requires-clause-some : goal.first_key-key-requires-clause-some
first_key-key-requires-clause-some c = some_reads c.args.graph.now c.args.from c.args.to (sym c.session.ensures ∙ c.if-session.false) c.requires.pair

pub returns : goal.returns
returns c =
    reads_step c.args.graph.now c.args.from c.args.to c.first_key-key.result c.requires.from c.requires.to (sym c.session.ensures ∙ c.if-session.false)
    c.first_key-key.ensures
