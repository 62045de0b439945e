use Rattle.std.proofs.Common.{subst, sym, ◌∙◌}
use Rattle.tcc_reads.specs.History.{History, IsBySession}
use Rattle.tcc_graph.proofs.Sessions.{last_before, first_of_session}
use Rattle.tcc_graph.proofs.large_graph.LargeGraph.previous.Goals as goal

pub returns-then-session-clause-last : goal.returns-then-session-clause-last
returns-then-session-clause-last c =
    λ b p.
    last_before c.args.self.now (subst (λ (h : History). IsBySession h.entries) c.self.view_is c.self.invariant.ordered) b c.args.c c.requires.some
    (sym c.session.ensures ∙ c.if-session.true) p

pub returns-else-session-clause-last : goal.returns-else-session-clause-last
returns-else-session-clause-last c =
    λ b p.
    first_of_session c.args.self.now (subst (λ (h : History). IsBySession h.entries) c.self.view_is c.self.invariant.ordered) b c.args.c c.requires.some
    (sym c.session.ensures ∙ c.if-session.false) p
