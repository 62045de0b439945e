use Rattle.std.proofs.Common.{◌≡◌, ℕ, [], List, take, length, ap, sym, subst, ◌∙◌, arith, append-nil}
use Rattle.tcc_txn.specs.Nested.{IsPrefix}
use Rattle.tcc_txn.specs.private.Packing.{AreNamed}
use Rattle.tcc_txn.specs.declared.packed.PackedOp.{PackedOp}
use Rattle.tcc_txn.specs.declared.packed.PackedTxns.{PackedTxns}
use Rattle.tcc_txn.proofs.PackedOps.{named-on, packed-kept, prefix_front, txns-kept}
use Rattle.tcc_txn.proofs.packed.push_packed.Goals.{After-truncate}
use Rattle.tcc_txn.proofs.packed.push_packed.Goals as goal

-- after the cut the old operations are left
cut : (old behind new : List PackedOp) (count : ℕ) → IsPrefix old behind → count ≡ length old → new ≡ take count behind → new ≡ old
cut old behind new count begins is taken = taken ∙ ap (λ (n : ℕ). take n behind) is ∙ prefix_front old behind begins

abbrev left : After-truncate → PackedTxns
left c = record { ops = c.truncate.new.self; spans = c.pack_behind.new.txns.spans }

same_ops : (c : After-truncate) → c.truncate.new.self.items ≡ c.args.txns.now.ops.items
same_ops c =
    cut c.args.txns.now.ops.items c.pack_behind.new.txns.ops.items c.truncate.new.self.items c.len-count.result c.in-Err.ensures.behind
    (omega (arith, c.len-count.ensures, c.args.txns.now.ops.ok.0)) c.truncate.ensures.items

begins : (c : After-truncate) → IsPrefix c.args.txns.now.ops.items c.truncate.new.self.items
begins c = ([], same_ops c ∙ sym (append-nil c.args.txns.now.ops.items))

pub returns-in-Err-clause-kept : goal.returns-in-Err-clause-kept
returns-in-Err-clause-kept c =
    let after = (goal.at.returns-in-Err-clause-kept c).After-truncate in
    txns-kept c.args.keys.now c.pack_behind.new.keys c.in-Err.ensures.more c.args.txns.now (left after) c.requires (begins after) c.in-Err.ensures.spans

pub returns-in-Err-clause-packed : goal.returns-in-Err-clause-packed
returns-in-Err-clause-packed c =
    let after = (goal.at.returns-in-Err-clause-packed c).After-truncate in
    packed-kept c.args.keys.now c.pack_behind.new.keys c.in-Err.ensures.more c.args.txns.now (left after) c.requires (begins after) c.in-Err.ensures.spans
    (subst (AreNamed c.pack_behind.new.keys) (sym (same_ops after))
    (named-on c.args.keys.now c.pack_behind.new.keys c.in-Err.ensures.more c.args.txns.now.ops.items c.requires.named))
