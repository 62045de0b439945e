use Rattle.std.proofs.Common.{◌≡◌, map, take, string_bytes}
use Rattle.tcc_slices.specs.Moved.{moved}
use Rattle.tcc_graph.specs.Renumbered.{link_by}
use Rattle.tcc_slices.proofs.growing.carried.Given as goal

abbrev pub invariant-loop-link : goal.invariant-loop-link
invariant-loop-link l = l.found.items ≡ map (link_by (moved (map string_bytes l.numbers.0.now) (map string_bytes l.numbers.1.0.now))) (take l.link-index l.links)
