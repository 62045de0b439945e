use Rattle.std.proofs.Common.{◌≡◌, ◌+◌, ◌++◌, ◌∷◌, [], List, take, ap, sym, subst, ◌∙◌, append_assoc}
use Rattle.std.proofs.lemmas.List.{take_more}
use Rattle.tcc_txn.specs.private.Packing.{PacksOps}
use Rattle.tcc_txn.specs.declared.op.Op.{Op}
use Rattle.tcc_txn.specs.declared.packed.PackedOp.{PackedOp}
use Rattle.tcc_txn.proofs.PackedOps.{packs-more, packs-on, prefix_on}
use Rattle.tcc_txn.proofs.packed.pack_each.Goals as goal

pub loop-op-preserved : goal.loop-op-preserved
loop-op-preserved c =
    let before = c.loop-op.invariant in
    let ops : List Op = c.args.ops.now in
    let i = c.loop-op.op-index in
    let all = c.pack.new.keys in
    let last = c.in_ok-op.op in
    let more = before.packed.0 in
    let one : take i ops ++ c.op-item.result ∷ [] ≡ take (i + 1) ops
    = ap (λ (z : Op). take i ops ++ z ∷ []) c.op-item.is ∙ sym (take_more ops i c.op-item.result c.loop-op-test.true) in
    record {
      more = prefix_on c.args.keys.now c.loop-op.keys all before.more c.in_ok-op.ensures.more;
      packed = (
        more ++ last ∷ [],
        c.in_ok-push.ensures.items ∙ ap (λ (z : List PackedOp). z ++ last ∷ []) before.packed.1 ∙ append_assoc c.args.packed.now.items more (last ∷ []),
        subst (PacksOps all (more ++ last ∷ [])) one
            (packs-more all more (take i ops) last c.op-item.result
            (packs-on c.loop-op.keys all c.in_ok-op.ensures.more more (take i ops) before.packed.2) c.in_ok-op.ensures.within c.in_ok-op.ensures.same),
      );
    }
