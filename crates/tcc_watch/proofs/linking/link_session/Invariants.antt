use Rattle.tcc_watch.proofs.linking.link_session.Given as goal

abbrev pub ghost-settle : goal.ghost-settle
ghost-settle g a = g.read.history
