-- The run ends in the text that was made.
use Rattle.tcc_batch.proofs.lines.print_lines.Goals as goal

pub returns-clause-ended : goal.returns-clause-ended
returns-clause-ended g c = c.send_made.ensures.ended _ c.lines_text.ensures
