use Rattle.tcc_forget.proofs.slots.Slots.arrive.Given as goal

abbrev pub ghost-link_reads : goal.ghost-link_reads
ghost-link_reads g a = g.on
