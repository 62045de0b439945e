use Rattle.std.proofs.Common.{ℕ, ◌<◌}
use Rattle.std.specs.Prelude.{slice_index_or}
use Rattle.tcc_watch.specs.declared.linking.SessionWriters.{SessionWriters}
use Rattle.tcc_watch.specs.private.Links.{IsClosure, Keeps, OrdersWriters}
use Rattle.tcc_watch.proofs.linking.link_read.Given as goal

abbrev pub invariant-loop-list : goal.invariant-loop-list
invariant-loop-list g l = record {
  closure : IsClosure g.read.history l.closure;
  keeps : Keeps g.read.history l.initial.closure l.closure;
  done : (i : ℕ) (d : SessionWriters) → i < l.list-index → OrdersWriters g.read l.closure (slice_index_or l.writers i d).numbers l.a;
}

abbrev pub ghost-link_session : goal.ghost-link_session
ghost-link_session g a = g.read
