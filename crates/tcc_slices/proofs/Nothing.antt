-- Where a cut comes to nothing: a transaction that is there has a session and a part.
use Rattle.std.proofs.Common.{ℕ, ◌≡◌, ◌<◌, ◌+◌, true, List, length, refl, ap, subst, ◌∙◌, arith}
use Rattle.std.specs.Prelude.{Some, slice_index}
use Rattle.std.specs.FinMap.{entries}
use Rattle.std.proofs.lemmas.List.{length-map}
use Rattle.tcc_txn.specs.Finished.{IsWithinLimits, with_transaction}
use Rattle.tcc_txn.specs.Snapshots.{Sessions}
use Rattle.tcc_txn.specs.Transactions.{Transaction}
use Rattle.tcc_txn.specs.declared.limits.Limits.TheVariants.{Small}
use Rattle.tcc_txn.proofs.SessionEntries.{Named}
use Rattle.tcc_reads.specs.History.{History, IsBySession, count}
use Rattle.tcc_reads.specs.Sources.{history}
use Rattle.tcc_graph.specs.declared.link.Link.{Link}
use Rattle.tcc_slices.specs.Limits.{NeedTooMuch}
use Rattle.tcc_slices.specs.private.Carrying.{IsRising}
use Rattle.tcc_slices.specs.private.Cutting.{AreMetBy, IsCut, IsNamed, IsNameless, IsPartOf, own_needs, recorded_of}
use Rattle.tcc_slices.specs.declared.needs.Need.{Need}
use Rattle.tcc_slices.proofs.Beyond.{beyond}
use Rattle.tcc_slices.proofs.Named.{cut_more}
use Rattle.tcc_slices.proofs.Numbered.{number_stands, of_number}
use Rattle.tcc_slices.proofs.PartsOf.{at_number, recorded_are}
use Rattle.tcc_slices.proofs.Placed.{session_within}

module _ (s : Sessions) (h : History) (same : h ≡ history s) (n : ℕ) (some : 0 < n) (below : n < count h) where
  pub has_name : IsNameless s h n → ⊥
  has_name none =
      let u = of_number s n some (subst (λ (z : History). n < count z) same below) in
      let past = subst (λ (z : History). IsNameless s z n) same none u.0.session u.0.place (at_number s n u.0 u.1) in
      let inside = session_within s u.0 (number_stands s n u.0 u.1).0 in
      omega (arith, past, inside, length-map (entries s) (λ (named : Named). named.0))

  pub has_part : ((t : Transaction) → recorded_of s h n ≡ Some t → t.committed ≡ true → ⊥) → ⊥
  has_part none =
      let u = of_number s n some (subst (λ (z : History). n < count z) same below) in
      none u.0.txn (ap (λ (z : History). recorded_of s z n) same ∙ recorded_are s n u.0 u.1) (number_stands s n u.0 u.1).1

-- one part more would break the limits
pub no_room : (s : Sessions) (h : History) → IsBySession h.entries → (links : List Link) (needs : List (ℕ × Need)) (numbers : List ℕ) → IsRising numbers
    → AreMetBy h links numbers → (slice : Sessions) (k : ℕ) (name : List ℕ) (txn : Transaction) → 0 < k → k < length numbers → IsCut s h needs numbers k slice
    → IsNamed s h (slice_index numbers k) name → IsPartOf s h (own_needs needs (slice_index numbers k)) (slice_index numbers k) txn
    → (IsWithinLimits Small (with_transaction slice name txn) → ⊥) → NeedTooMuch h links
no_room s h numbered links needs numbers rising met slice k name txn some below cut named part not =
    beyond s (with_transaction slice name txn) h links needs numbers (k + 1) (omega (arith, below)) rising (λ j more inside. (met j more inside).0)
    (cut_more s h numbered needs numbers rising slice (with_transaction slice name txn) k name txn some below cut refl named part) not
