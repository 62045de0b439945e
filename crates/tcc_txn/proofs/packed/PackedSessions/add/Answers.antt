use Rattle.std.proofs.Common.{List, ℕ, T, sym, subst}
use Rattle.std.specs.FinMap.Entries.{is_sorted}
use Rattle.tcc_txn.specs.Transactions.{Transaction}
use Rattle.tcc_txn.specs.private.Packing.{txns_in}
use Rattle.tcc_txn.proofs.Growing.{is_sorted-seen}
use Rattle.tcc_txn.proofs.SortedParts.{name_cmp}
use Rattle.tcc_txn.proofs.packed.PackedSessions.add.Goals as goal

pub add_packed-requires-clause-sorted : goal.add_packed-requires-clause-sorted
add_packed-requires-clause-sorted c =
    subst T (is_sorted-seen (txns_in c.self.inside.keys) c.self.inside.sessions.items)
    (subst (λ (es : List (List ℕ × List Transaction)). T (is_sorted name_cmp es)) (sym c.self.view_is) c.requires)
