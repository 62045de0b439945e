-- Where the transactions of a snapshot are, by name and place: in a larger one they are there too.
use Rattle.std.proofs.Common.{length-append, ℕ, ◌≡◌, ◌<◌, List, [], ◌++◌, length, Option, None, Some, refl, sym, subst, ap, ◌∙◌, arith}
use Rattle.std.specs.Prelude.{unwrap_or}
use Rattle.std.specs.List.{Contains}
use Rattle.std.specs.FinMap.{get, entries}
use Rattle.std.proofs.Math.ListN.{get_or-append}
use Rattle.std.proofs.lemmas.List.Elements.{Contains-append_left}
use Rattle.tcc_txn.specs.Snapshots.{Sessions}
use Rattle.tcc_txn.specs.Transactions.{Transaction}
use Rattle.tcc_txn.specs.Nested.{list_of, IsNested}
use Rattle.tcc_txn.proofs.SessionEntries.{Named, entry_of_name, list_of_entry}
use Rattle.tcc_reads.specs.Sites.{Stand, stands}
use Rattle.tcc_slices.proofs.Placed.{HasAt, entry_of_stand, stand_of_entry}

-- two transactions of one name, place and content, whatever the index of their session
pub record IsAlike (t : Stand) (u : Stand) : Type 0 where
  pub name : u.name ≡ t.name
  pub place : u.place ≡ t.place
  pub txn : u.txn ≡ t.txn

has_longer : (txns rest : List Transaction) (place : ℕ) (txn : Transaction) → HasAt txns place txn → HasAt (txns ++ rest) place txn
has_longer txns rest place txn (k, within, place_is, txn_is) =
    let w = Contains-append_left txns rest txn (k, within, txn_is) in
    let long : k < length (txns ++ rest) = simp length-append (omega arith) in
    (k, long, place_is, get_or-append txns rest txn k within ∙ txn_is)

-- each transaction of the smaller snapshot is in the larger one, under its name at its place
pub carried : (small large : Sessions) → IsNested small large → (t : Stand) → Contains (stands small) t → (u : Stand) × Contains (stands large) u × IsAlike t u
carried small large nested t there = by (get large name) refl in_larger
  where
    from : (e : Named) × Contains (entries small) e × (t.name ≡ e.0) × HasAt e.1 t.place t.txn
    from = entry_of_stand 0 (entries small) t there

    name : List ℕ
    name = from.0.0

    list_is : list_of small name ≡ from.0.1
    list_is = list_of_entry small from.0 from.1

    in_larger : HasAt (list_of large name) t.place t.txn
    in_larger =
        let w = nested name in
        subst (λ (z : List Transaction). HasAt z t.place t.txn) (sym (w.1 ∙ ap (λ (z : List Transaction). z ++ w.0) list_is))
        (has_longer from.0.1 w.0 t.place t.txn from.3)

    by : (o : Option (List Transaction)) → get large name ≡ o → HasAt (unwrap_or o []) t.place t.txn → (u : Stand) × Contains (stands large) u × IsAlike t u
    by None found (k, within, place_is, txn_is) = absurd (omega arith)
    by (Some v) found at =
        let w = entry_of_name large name v found in
        let u = stand_of_entry 0 (entries large) w.0 t.place t.txn w.1 (subst (λ (z : List Transaction). HasAt z t.place t.txn) (sym w.3) at) in
        (u.0, u.1, record { name = u.2 ∙ w.2 ∙ sym from.2; place = u.3; txn = u.4 })
