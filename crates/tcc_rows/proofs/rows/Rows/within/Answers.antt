use Rattle.tcc_rows.proofs.AheadFacts.{all-ahead, all-left}
use Rattle.tcc_rows.proofs.rows.Rows.within.Goals as goal

pub returns-clause-ahead : goal.returns-clause-ahead
returns-clause-ahead g c = all-ahead c.args.limits g.R.Read.remaining c.args.reader _ c.new.ensures.left c.new-2.ensures c.new.ensures.none c.new.ensures.going

pub returns-clause-within : goal.returns-clause-within
returns-clause-within g c = all-left c.args.limits g.R.Read.remaining c.args.reader _ c.new.ensures.left c.new.ensures.none c.new.ensures.going
