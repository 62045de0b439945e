use Rattle.tcc_rows.proofs.PastLimit.{faulty, read-at}
use Rattle.tcc_rows.proofs.laws.past_the_limit.Goals as goal

pub returns-clause-faulty : goal.returns-clause-faulty
returns-clause-faulty c = faulty

pub returns-clause-read : goal.returns-clause-read
returns-clause-read c = read-at
