use Rattle.tcc_watch.proofs.Newest.{newest_reader, old_or_closed, cheaper_closed, closing}
use Rattle.tcc_watch.proofs.laws.newest_reader.Goals as goal

pub returns-clause-reader : goal.returns-clause-reader
returns-clause-reader c j s links delivered cycle = newest_reader j delivered s links cycle

pub returns-clause-brought : goal.returns-clause-brought
returns-clause-brought c h more level s links delivered may cycle = old_or_closed h more level delivered may s links cycle

pub returns-clause-falls : goal.returns-clause-falls
returns-clause-falls c small large h more f g level s links on cycle cheaper = cheaper_closed small large h more f g on level s links cycle cheaper

pub returns-clause-costs : goal.returns-clause-costs
returns-clause-costs c j s links delivered cycle = closing j delivered s links cycle
