use Rattle.std.proofs.Common.{ap, sym, subst, ◌∙◌, length, sum_by, arith}
use Rattle.tcc_txn.specs.private.SnapshotStorage.{IsStoredWithin, shown}
use Rattle.tcc_txn.specs.private.Storing.{parts_in}
use Rattle.tcc_txn.specs.declared.limits.Limits.TheVariants.{Small}
use Rattle.tcc_txn.proofs.StoredSnapshot.{entries-parts, stored-within}
use Rattle.tcc_txn.proofs.snapshot.SnapshotWithin+LargeLimits.small_copy.Goals as goal

pub invariant_of-result : goal.invariant_of-result
invariant_of-result c =
    let old = parts_in c.self.inside.sessions in
    let same = c.in_ok-copied_parts.ensures ∙ sym (entries-parts old c.args.self.now c.self.invariant.stored c.self.view_is) in
    record {
      stored =
          subst (IsStoredWithin Small) (sym same)
          (stored-within old c.args.self.now c.self.invariant.stored c.self.view_is Small (c.is_small.ensures.0 c.if-not-is_small.false));
      counted = omega (arith, c.self.invariant.counted, ap (sum_by (λ part. length part.1)) same);
      plain = λ _. tt;
    }

pub returns : goal.returns
returns c =
    let old = parts_in c.self.inside.sessions in
    let same = c.in_ok-copied_parts.ensures ∙ sym (entries-parts old c.args.self.now c.self.invariant.stored c.self.view_is) in
    (c.is_small.ensures.0 c.if-not-is_small.false, ap shown same ∙ c.self.view_is)
