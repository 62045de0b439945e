use Rattle.tcc_watch.proofs.Waiting.{waiting_cycle}
use Rattle.tcc_watch.proofs.laws.waiting.Goals as goal

pub returns : goal.returns
returns c h has_come level x below waits all = waiting_cycle h has_come level x below waits all
