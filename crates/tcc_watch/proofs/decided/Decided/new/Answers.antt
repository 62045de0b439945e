use Rattle.tcc_watch.specs.private.Delivering.{before_all}
use Rattle.tcc_watch.proofs.Deciding.{first_known}
use Rattle.tcc_watch.proofs.decided.Decided.new.Goals as goal

pub returns : goal.returns
returns c sessions = first_known (before_all sessions) c.in_ok-delivered.delivered (c.in_ok-delivered.ensures sessions)
