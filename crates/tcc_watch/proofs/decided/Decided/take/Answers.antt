use Rattle.tcc_watch.proofs.Deciding.{still_cycle, all_of, known_after}
use Rattle.tcc_watch.proofs.decided.Decided.take.Goals as goal

pub returns-then-self : goal.returns-then-self
returns-then-self g c = still_cycle g.arriving c.args.self.now.delivered c.args.self.now.has_cycle c.if-self.true c.requires.known

pub deliver-requires : goal.deliver-requires
deliver-requires g c = record {
  state = all_of g.arriving.history c.args.self.now.delivered c.args.self.now.has_cycle c.if-self.false c.requires.known;
  coming = c.requires.coming;
}

pub returns : goal.returns
returns g c = known_after g.arriving c.deliver.new.self c.in_ok-in_order.in_order c.in_ok-in_order.ensures
