use Rattle.tcc_watch_run.proofs.Quietly.{ends_alike, first_line}
use Rattle.tcc_watch_run.proofs.laws.first_lines.Goals as goal

pub returns-clause-text : goal.returns-clause-text
returns-clause-text c = first_line

pub returns-clause-status : goal.returns-clause-status
returns-clause-status c = ends_alike
