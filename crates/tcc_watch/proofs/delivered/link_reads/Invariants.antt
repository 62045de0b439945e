use Rattle.tcc_watch.specs.private.Links.{IsClosure, Keeps}
use Rattle.tcc_watch.specs.private.Tables.{after}
use Rattle.tcc_watch.specs.private.Delivering.{OrdersReads, reading_of}
use Rattle.tcc_watch.proofs.delivered.link_reads.Given as goal

abbrev pub invariant-loop-read : goal.invariant-loop-read
invariant-loop-read g l = record {
  closure : IsClosure (after g.arriving) l.closure;
  keeps : Keeps (after g.arriving) l.initial.closure l.closure;
  done : OrdersReads g.arriving l.closure l.reads l.read-index;
}

abbrev pub ghost-link_key : goal.ghost-link_key
ghost-link_key g a = reading_of g.arriving a.read.now.0
