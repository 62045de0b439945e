use Rattle.std.proofs.Common.{◌≡◌, ◌∷◌, map, take}
use Rattle.tcc_watch.specs.private.Tables.{previous_in}
use Rattle.tcc_watch.proofs.tables.parents.Given as goal

abbrev pub invariant-loop-read : goal.invariant-loop-read
invariant-loop-read l = l.parents.items ≡ previous_in l.members l.session ∷ map (λ read. read.1) (take l.read-index l.reads)
