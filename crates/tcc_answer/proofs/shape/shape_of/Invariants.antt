-- where the derived links so far lead
use Rattle.std.proofs.Common.{◌≡◌, take}
use Rattle.tcc_answer.specs.Shapes.{derived_ends}
use Rattle.tcc_answer.proofs.Ends.{end_of}
use Rattle.tcc_answer.proofs.shape.shape_of.Given as goal

abbrev pub invariant-loop-link : goal.invariant-loop-link
invariant-loop-link l = derived_ends (take l.link-index l.links) ≡ end_of l.end
