use Rattle.tcc_core.proofs.Ending.{still_outside, finished_returned, finished_cut}
use Rattle.tcc_core.proofs.laws.ended.Goals as goal

pub returns : goal.returns
returns c = record { more = still_outside; returned = finished_returned; cut = finished_cut }
