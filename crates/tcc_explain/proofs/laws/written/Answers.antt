use Rattle.tcc_explain.proofs.WrittenAnswer.{read_back, written}
use Rattle.tcc_explain.proofs.laws.written.Goals as goal

pub returns-clause-text : goal.returns-clause-text
returns-clause-text c = λ s level a limits named is. written s limits named level a is

pub returns-clause-read : goal.returns-clause-read
returns-clause-read c = λ s level a limits named is. read_back s limits named level a is
