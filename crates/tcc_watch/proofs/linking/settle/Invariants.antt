use Rattle.tcc_watch.proofs.linking.settle.Given as goal

abbrev pub ghost-raise : goal.ghost-raise
ghost-raise g a = g.h
