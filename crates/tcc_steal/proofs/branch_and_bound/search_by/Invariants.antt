use Rattle.tcc_steal.proofs.branch_and_bound.search_by.Given as goal

abbrev pub ghost-new : goal.ghost-new
ghost-new g a = g.floor
