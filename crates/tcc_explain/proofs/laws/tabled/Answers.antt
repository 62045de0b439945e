use Rattle.tcc_explain.proofs.TabledAnswer.{bare, tabled}
use Rattle.tcc_explain.proofs.laws.tabled.Goals as goal

pub returns : goal.returns
returns c = record { whole = tabled; bare = bare }
