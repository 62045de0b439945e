use Rattle.tcc_watch.proofs.kept.Kept.enter.Given as goal

abbrev pub ghost-take : goal.ghost-take
ghost-take g a = g.arriving
