-- the needs so far
use Rattle.std.proofs.Common.{◌≡◌, take}
use Rattle.std.specs.Prelude.{flat_map}
use Rattle.tcc_slices.specs.private.Needing.{needs_of_link}
use Rattle.tcc_slices.proofs.needs.Needs.of.Given as goal

abbrev pub invariant-loop-link : goal.invariant-loop-link
invariant-loop-link l = l.needs.each.items ≡ flat_map needs_of_link (take l.link-index l.links)
