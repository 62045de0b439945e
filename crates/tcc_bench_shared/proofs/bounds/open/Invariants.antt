use Rattle.tcc_bench_shared.proofs.bounds.open.Given as goal

abbrev pub ghost-new : goal.ghost-new
ghost-new a = 0
