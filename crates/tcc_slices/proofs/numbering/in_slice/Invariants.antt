use Rattle.std.proofs.Common.{◌≡◌, map, take}
use Rattle.tcc_graph.specs.Renumbered.{link_by}
use Rattle.tcc_slices.specs.private.Carrying.{place}
use Rattle.tcc_slices.proofs.numbering.in_slice.Given as goal

abbrev pub invariant-loop-link : goal.invariant-loop-link
invariant-loop-link l = l.own.items ≡ map (link_by (place l.numbers)) (take l.link-index l.links)
