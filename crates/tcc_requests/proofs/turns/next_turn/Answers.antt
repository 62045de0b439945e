-- A line was read, or there is none.
use Rattle.std.proofs.Common.{arith}
use Rattle.tcc_requests.proofs.Turning.{line_read, line_unread}
use Rattle.tcc_requests.proofs.turns.next_turn.Goals as goal

pub returns-in_ok-take_line-in-Feed : goal.returns-in_ok-take_line-in-Feed
returns-in_ok-take_line-in-Feed g c =
    line_read _ _ _ _ c.in-Feed.count _ (omega arith) (rw c.in-Feed.is at c.in_ok-end.ensures) c.in_ok-take_line-in-Feed.ensures

pub returns-in-Unfinished : goal.returns-in-Unfinished
returns-in-Unfinished g c = line_unread _ _ _ (omega arith) (rw c.in-Unfinished.is at c.in_ok-end.ensures)
