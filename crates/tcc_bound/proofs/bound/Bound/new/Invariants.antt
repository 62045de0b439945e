use Rattle.tcc_bound.proofs.bound.Bound.new.Given as goal

abbrev pub ghosts-name : goal.ghosts-name
ghosts-name g a = record { number = g.floor }
