-- A part came after the bytes so far, and is held after them.
use Rattle.std.proofs.Common.{◌≡◌, ◌∙◌, ◌++◌, length, take, arith, length-append, length-take}
use Rattle.std.proofs.KnownBytes.{Consumes-trans}
use Rattle.tcc_requests.proofs.Reading.{held-then}
use Rattle.tcc_requests.proofs.body.read_part.Goals as goal

pub loop-left-preserved : goal.loop-left-preserved
loop-left-preserved g c =
    let before = c.loop-left.invariant in
    let taken = c.in_ok-taken.taken in
    let part = take taken c.read_some.new.buffer in
    let bound = c.in_ok-taken.ensures.bound in
    let long : length part ≡ taken = length-take taken c.read_some.new.buffer ∙ omega (arith, bound) in (
      before.0 ++ part,
      omega (arith, length-append before.0 part, long, before.1, bound),
      Consumes-trans _ _ _ before.0 part before.2 c.in_ok-taken.ensures.bytes,
      held-then _ _ _ before.0 part before.3 c.hold-held.ensures,
    )
