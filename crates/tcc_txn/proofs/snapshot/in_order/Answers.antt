use Rattle.std.proofs.Common.{◌≡◌, ℕ, List, ◌++◌, take, drop, length, ap, sym, ◌∙◌, subst, None}
use Rattle.std.proofs.lemmas.List.{take_at}
use Rattle.std.proofs.lemmas.List.Sorted.{length_permutation}
use Rattle.std.specs.List.Sorted.{IsPermutation}
use Rattle.std.specs.Global.{Vec}
use Rattle.tcc_txn.specs.Transactions.{Transaction}
use Rattle.tcc_txn.specs.Snapshots.{parts_of, snapshot_fault_within}
use Rattle.tcc_txn.specs.private.SnapshotStorage.{IsStoredWithin, shown}
use Rattle.tcc_txn.proofs.StoredSnapshot.{stored_sorted, shown_parts}
use Rattle.tcc_txn.proofs.snapshot.in_order.Goals as goal

-- the sorted parts fill the vector that had the parts
sorted_fill : (parts : Vec (List ℕ × Vec Transaction)) (sorted : List (List ℕ × Vec Transaction)) → IsPermutation parts.items sorted
    → take parts.len (sorted ++ drop (length sorted) parts.items) ≡ sorted
sorted_fill parts sorted moved =
    take_at sorted (drop (length sorted) parts.items) parts.len (length_permutation parts.items sorted moved ∙ sym parts.ok.0)

pub returns : goal.returns
returns c =
    let none : snapshot_fault_within c.args.limits (parts_of c.args.parts.items) ≡ None
    = ap (λ ps. snapshot_fault_within c.args.limits (parts_of ps)) (sym c.deref.ensures.value) ∙ sym c.fault_of.ensures ∙ c.in_default.is in
    let moved : IsPermutation c.args.parts.items c.sort_by_name.new.parts
    = subst (λ ps. IsPermutation ps c.sort_by_name.new.parts) c.deref_mut.ensures.value c.sort_by_name.ensures.permutation in
    record {
      made = (
        none,
        ap (λ ps. shown (parts_of ps)) (sorted_fill c.args.parts c.sort_by_name.new.parts moved)
            ∙ shown_parts c.args.limits c.args.parts.items c.sort_by_name.new.parts none moved c.sort_by_name.ensures.sorted,
      );
      stored =
          subst (λ ps. IsStoredWithin c.args.limits (parts_of ps)) (sym (sorted_fill c.args.parts c.sort_by_name.new.parts moved))
          (stored_sorted c.args.limits c.args.parts.items c.sort_by_name.new.parts none moved c.sort_by_name.ensures.sorted);
    }
