use Rattle.tcc_watch.proofs.delivered.link_key.Given as goal

abbrev pub ghost-link_read : goal.ghost-link_read
ghost-link_read g a = g.reading
