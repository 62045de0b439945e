use Rattle.std.proofs.Common.{List, sym, subst}
use Rattle.tcc_txn.specs.private.Packing.{AllPacked, Names}
use Rattle.tcc_txn.proofs.PackedOps.{Part}
use Rattle.tcc_txn.proofs.packed.PackedSessions.key_numbers.Goals as goal

pub numbers_in-requires : goal.numbers_in-requires
numbers_in-requires c =
    subst (λ (names : Names). AllPacked names c.deref.result.now) (sym c.names-names.ensures)
    (subst (AllPacked c.self.inside.keys) (sym c.deref.ensures.value) c.self.invariant)
