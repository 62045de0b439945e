use Rattle.tcc_explain.proofs.RecordedKeys as keys
use Rattle.tcc_explain.proofs.laws.recorded.Goals as goal

pub returns : goal.returns
returns c = keys.recorded
