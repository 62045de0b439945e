use Rattle.std.proofs.Common.{Bool, true, sym, subst, arith}
use Rattle.tcc_watch.specs.declared.linking.SessionWriters.{SessionWriters}
use Rattle.tcc_watch.specs.private.Links.{AreWritersIn, GoNoFurther, IsLinkedIn}
use Rattle.tcc_watch.proofs.Settled.{lists_more, reasons_done}
use Rattle.tcc_watch.proofs.linking.link_read.Goals as goal

pub link_session-requires : goal.link_session-requires
link_session-requires g c =
    let r = c.requires.reading in
    record {
      reading = record {
        delivered = r.delivered;
        closure = c.loop-list.invariant.closure;
        placed = r.placed;
        listed = r.listed;
        clock_of = r.clock_of;
        read = r.read;
      };
      right = subst (λ (z : SessionWriters). AreWritersIn g.read.history g.read.reader g.read.key z.session z.numbers) (sym c.list-item.is)
          (c.requires.right.each c.loop-list.list-index c.list-item.result c.loop-list-test.true);
      last = subst (λ (z : SessionWriters). GoNoFurther g.read.history z.numbers z.last) (sym c.list-item.is)
          (c.requires.right.last c.loop-list.list-index c.list-item.result c.loop-list-test.true);
    }

pub loop-list-preserved : goal.loop-list-preserved
loop-list-preserved g c =
    let w = c.list-item.result in
    let old = c.loop-list.closure in
    let new = c.link_session.new.closure in
    let right : IsLinkedIn g.read old new w c.args.a true
    = subst (λ (z : Bool). IsLinkedIn g.read old new w c.args.a z) c.if-not-branch.false c.in_ok-link_session.ensures in
    record {
      closure = right.0;
      keeps = λ u v at_u at_v up. right.1 u v at_u at_v (c.loop-list.invariant.keeps u v at_u at_v up);
      done = lists_more g.read old new c.args.writers.now c.loop-list.list-index w c.args.a c.requires.reading.read.0 c.list-item.is c.loop-list-test.true
          c.loop-list.invariant.done right;
    }

pub returns : goal.returns
returns g c = (
  c.loop-list.invariant.closure,
  c.loop-list.invariant.keeps,
  reasons_done g.read c.loop-list.closure c.args.closure.now c.args.stands.now c.args.members.now c.args.writers.now c.args.clock.now c.args.a c.requires
      (λ i d inside. c.loop-list.invariant.done i d (omega (arith, inside, c.loop-list-test.false))),
)
