use Rattle.tcc_forget.proofs.slots.settle.Given as goal

abbrev pub ghost-raise : goal.ghost-raise
ghost-raise g a = g.on.sessions
