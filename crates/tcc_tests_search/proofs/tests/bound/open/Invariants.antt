use Rattle.tcc_tests_search.proofs.tests.bound.open.Given as goal

abbrev pub ghost-new : goal.ghost-new
ghost-new a = 0
