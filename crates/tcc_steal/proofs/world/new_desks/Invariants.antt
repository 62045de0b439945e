use Rattle.std.proofs.Common.{◌≡◌, map, replicate, None, All}
use Rattle.tcc_steal.specs.Worlds.{new_worker}
use Rattle.tcc_steal.specs.Machines.{worker_of}
use Rattle.tcc_steal.proofs.world.new_desks.Given as goal

abbrev pub invariant-loop-number : goal.invariant-loop-number
invariant-loop-number l = (map worker_of l.desks.items ≡ replicate l.number new_worker) × All (λ desk. desk.search ≡ None) l.desks.items
