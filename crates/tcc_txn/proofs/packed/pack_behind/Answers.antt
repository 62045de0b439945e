use Rattle.std.proofs.Common.{◌≡◌, ◌++◌, ◌∷◌, [], None, List, ap, subst, arith, length}
use Rattle.tcc_txn.specs.Transactions.{txn_fault}
use Rattle.tcc_txn.specs.private.Packing.{ArePacked, PacksOps, txns_in}
use Rattle.tcc_txn.specs.declared.op.Op.{Op}
use Rattle.tcc_txn.specs.declared.packed.PackedTxns.{PackedTxns}
use Rattle.tcc_txn.proofs.PackedOps.{one-added, prefix_on}
use Rattle.tcc_txn.proofs.packed.pack_behind.Goals.{In_ok-push}
use Rattle.tcc_txn.proofs.packed.pack_behind.Goals as goal

abbrev grown : In_ok-push → PackedTxns
grown c = record { ops = c.pack_each.new.packed; spans = c.push.new.self }

both : (c : In_ok-push)
    → (txns_in c.pack_each.new.keys (grown c) ≡ txns_in c.args.keys.now c.args.txns.now ++ c.args.txn.now ∷ []) × ArePacked c.pack_each.new.keys (grown c)
both c =
    let packs = c.in_ok-pack_each.ensures.packed in
    one-added c.args.keys.now c.pack_each.new.keys
    (prefix_on c.args.keys.now c.learn.new.self c.pack_each.new.keys c.learn.ensures c.in_ok-pack_each.ensures.more) c.args.txns.now (grown c) c.requires packs.0 c.args.txn.now packs.1
    (subst (PacksOps c.pack_each.new.keys packs.0) c.ops-ops.ensures.value packs.2) _ c.in_ok-push.ensures.items
    (omega (arith, c.in_ok-start.ensures, c.len.ensures, c.args.txns.now.ops.ok.0)) (ap length c.ops-ops.ensures.value) c.committed.ensures
    (subst (λ (ops : List Op). txn_fault ops ≡ None) c.ops-ops.ensures.value c.ops-ops.ensures.lawful)

pub returns-clause-added : goal.returns-clause-added
returns-clause-added c = (both (goal.at.returns-clause-added c).In_ok-push).0

pub returns-clause-packed : goal.returns-clause-packed
returns-clause-packed c = (both (goal.at.returns-clause-packed c).In_ok-push).1
