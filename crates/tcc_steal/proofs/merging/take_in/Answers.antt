use Rattle.std.proofs.Common.{refl, arith}
use Rattle.tcc_steal.proofs.Slots.{all_more, kept_more, search_kept, search_let_go}
use Rattle.tcc_steal.proofs.Seats.{joined}
use Rattle.tcc_steal.proofs.merging.take_in.Goals as goal

pub join-requires-clause-seat : goal.join-requires-clause-seat
join-requires-clause-seat c = c.requires.2.seat.bound

pub join-requires-clause-other : goal.join-requires-clause-other
join-requires-clause-other c = c.requires.2.share.seat.bound

pub loop-searched-init : goal.loop-searched-init
loop-searched-init c = (
  λ t workers may.
      (let (seat, more, theirs) = joined may.seat may.share.seat c.join.ensures in
      (all_more t workers theirs c.args.share.searches.items may.share.searches, kept_more c.args.slots.now may.kept more)),
  refl,
  λ k d l. (let may = c.requires.2 in omega (arith, (may.share.searches k d l).start, may.long)),
)

pub loop-searched-preserved-then-is_none : goal.loop-searched-preserved-then-is_none
loop-searched-preserved-then-is_none c =
    search_kept c.loop-searched.searches.items c.pop.new.self.items c.loop-searched.slots c.in-Some.searched c.loop-searched.invariant
    c.in-Some.ensures.items

pub loop-searched-preserved-then-is_none-2 : goal.loop-searched-preserved-then-is_none-2
loop-searched-preserved-then-is_none-2 c =
    search_kept c.loop-searched.searches.items c.pop.new.self.items c.loop-searched.slots c.in-Some.searched c.loop-searched.invariant
    c.in-Some.ensures.items

pub loop-searched-preserved-then-is_none-3 : goal.loop-searched-preserved-then-is_none-3
loop-searched-preserved-then-is_none-3 c =
    search_kept c.loop-searched.searches.items c.pop.new.self.items c.loop-searched.slots c.in-Some.searched c.loop-searched.invariant
    c.in-Some.ensures.items

pub loop-searched-preserved : goal.loop-searched-preserved
loop-searched-preserved c =
    search_let_go c.loop-searched.searches.items c.pop.new.self.items c.loop-searched.slots c.in-Some.searched c.loop-searched.invariant
    c.in-Some.ensures.items

pub loop-searched-preserved-else-is_none : goal.loop-searched-preserved-else-is_none
loop-searched-preserved-else-is_none c =
    search_let_go c.loop-searched.searches.items c.pop.new.self.items c.loop-searched.slots c.in-Some.searched c.loop-searched.invariant
    c.in-Some.ensures.items

pub returns-clause-taken : goal.returns-clause-taken
returns-clause-taken c = λ t workers may.
    record { seat = (joined may.seat may.share.seat c.join.ensures).0; kept = (c.loop-searched.invariant.0 t workers may).1 }
