use Rattle.tcc_forget.proofs.slots.link_one.Given as goal

abbrev pub ghost-settle : goal.ghost-settle
ghost-settle g a = g.on
