use Rattle.tcc_rows.proofs.Continuing.{nested_finished}
use Rattle.tcc_rows.proofs.laws.finished_continues.Goals as goal

pub returns : goal.returns
returns c = nested_finished
