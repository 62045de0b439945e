use Rattle.tcc_watch.proofs.decided.Decided.take.Given as goal

abbrev pub ghost-deliver : goal.ghost-deliver
ghost-deliver g a = g.arriving
