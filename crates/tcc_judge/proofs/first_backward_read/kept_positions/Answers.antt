-- The positions, and the first pair that is out of order.
use Rattle.tcc_reads.specs.History.{count}
use Rattle.tcc_judge.specs.Orders.{BreaksPair}
use Rattle.tcc_judge.specs.private.Least.{IsFoundFirst}
use Rattle.tcc_judge.specs.private.Positions.{ArePositions, IsTurned}
use Rattle.tcc_judge.proofs.Ordered.{pairs_found, leads_onward}
use Rattle.tcc_judge.proofs.first_backward_read.kept_positions.Goals.{After-first_turned}
use Rattle.tcc_judge.proofs.first_backward_read.kept_positions.Goals as goal

are : (c : After-first_turned) → ArePositions (count c.args.graph.now) c.args.order.now c.in_ok-positions.positions.items
are c = rw c.count.ensures.value at c.in_ok-positions.ensures

turned : (c : After-first_turned) → IsFoundFirst (IsTurned c.args.graph.now c.in_ok-positions.positions.items) c.first_turned.result
turned c = rw c.deref.ensures.value at c.first_turned.ensures

found : (c : After-first_turned) → IsFoundFirst (BreaksPair c.args.graph.now c.args.order.now) c.first_turned.result
found c = pairs_found c.args.graph.now c.args.order.now c.in_ok-positions.positions.items c.requires.numbering (are c) c.first_turned.result (turned c)

pub returns-in-Some : goal.returns-in-Some
returns-in-Some c = rw c.in-Some.is at (found (goal.at.returns-in-Some c).After-first_turned)

pub returns-in-None : goal.returns-in-None
returns-in-None c =
    let d = (goal.at.returns-in-None c).After-first_turned in
    record {
      positions_are = are d;
      reads = rw c.in-None.is at (found d);
      onward =
          leads_onward c.args.graph.now c.args.order.now c.in_ok-positions.positions.items c.requires.numbering (are d) c.requires.sessions
          (rw c.in-None.is at (turned d));
    }
