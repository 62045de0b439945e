-- the links so far
use Rattle.std.proofs.Common.{◌≡◌, take}
use Rattle.tcc_answering.proofs.claims.copied.Given as goal

abbrev pub invariant-loop-link : goal.invariant-loop-link
invariant-loop-link l = l.copy.items ≡ take l.link-index l.links
