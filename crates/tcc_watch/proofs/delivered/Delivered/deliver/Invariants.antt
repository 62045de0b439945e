use Rattle.tcc_watch.specs.private.Tables.{after}
use Rattle.tcc_watch.proofs.delivered.Delivered.deliver.Given as goal

abbrev pub ghost-arrive : goal.ghost-arrive
ghost-arrive g a = g.arriving

abbrev pub ghost-link_reads : goal.ghost-link_reads
ghost-link_reads g a = g.arriving

abbrev pub ghost-note_writes : goal.ghost-note_writes
ghost-note_writes g a = after g.arriving
