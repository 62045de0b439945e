use Rattle.tcc_forget.proofs.slots.link_read.Given as goal

abbrev pub ghost-link_listed : goal.ghost-link_listed
ghost-link_listed g a = g.on

abbrev pub ghost-is_passed : goal.ghost-is_passed
ghost-is_passed g a = g.on
