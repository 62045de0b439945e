use Rattle.tcc_run.proofs.running.run_large.Goals as goal

pub returns : goal.returns
returns g c = c.run_within.ensures
