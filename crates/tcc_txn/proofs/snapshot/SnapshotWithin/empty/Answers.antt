use Rattle.std.proofs.Common.{ap, ◌∙◌, length, sum_by, arith}
use Rattle.tcc_txn.specs.private.Storing.{parts_in}
use Rattle.tcc_txn.proofs.GrownSnapshot.{shown-none, stored-none}
use Rattle.tcc_txn.proofs.snapshot.SnapshotWithin.empty.Goals as goal

pub invariant_of-result : goal.invariant_of-result
invariant_of-result g c = record {
  stored = stored-none g.B.Bounds.limits (parts_in c.new.result) c.new.ensures.parts;
  counted = omega (arith, ap (sum_by (λ part. length part.1)) c.new.ensures.parts);
  plain = λ small. c.new.ensures.plain (c.limits.ensures ∙ small);
}

pub returns : goal.returns
returns g c = shown-none g.B.Bounds.limits (parts_in c.new.result) c.new.ensures.parts
