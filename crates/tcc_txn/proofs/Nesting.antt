-- A snapshot that grows continues what it was.
use Rattle.std.proofs.Common.{ℕ, ◌≡◌, Bool, true, false, cond, List, [], ◌∷◌, ◌++◌, Some, append-nil, append_assoc, refl, sym, ap, ◌∙◌}
use Rattle.std.specs.Prelude.{unwrap_or}
use Rattle.std.specs.FinMap.{get, get-insert}
use Rattle.std.specs.Ordering.{eq_by_cmp}
use Rattle.std.specs.Cmp.Lexicographic.{nat_list_cmp_total}
use Rattle.std.proofs.lemmas.Map.Text.{is_eq-slice_cmp}
use Rattle.std.proofs.lemmas.Slice.Eq.{bytes_eq-Decides}
use Rattle.tcc_txn.specs.Finished.{with_transaction}
use Rattle.tcc_txn.specs.Nested.{IsNested, IsPrefix, list_of}
use Rattle.tcc_txn.specs.Snapshots.{Sessions}
use Rattle.tcc_txn.specs.Transactions.{Transaction}
use Rattle.tcc_txn.proofs.SortedParts.{name_cmp}

pub nested_itself : (s : Sessions) → IsNested s s
nested_itself s name = ([], sym (append-nil (list_of s name)))

pub nested_on : (r s t : Sessions) → IsNested r s → IsNested s t → IsNested r t
nested_on r s t p q name =
    let a = p name in
    let b = q name in
    (a.0 ++ b.0, b.1 ∙ ap (λ (z : List Transaction). z ++ b.0) a.1 ∙ append_assoc (list_of r name) a.0 b.0)

pub nested_transaction : (s : Sessions) (session : List ℕ) (txn : Transaction) → IsNested s (with_transaction s session txn)
nested_transaction s session txn name = go (eq_by_cmp name_cmp name session) refl
  where
    found : get (with_transaction s session txn) name ≡ cond (eq_by_cmp name_cmp name session) (Some (list_of s session ++ txn ∷ [])) (get s name)
    found = get-insert nat_list_cmp_total s session (list_of s session ++ txn ∷ []) name

    go : (b : Bool) → eq_by_cmp name_cmp name session ≡ b → IsPrefix (list_of s name) (list_of (with_transaction s session txn) name)
    go true tied =
        let same : session ≡ name = sym ((bytes_eq-Decides name session).0 (sym (is_eq-slice_cmp name session) ∙ tied)) in (
          txn ∷ [],
          ap (λ o. unwrap_or o []) (found ∙ ap (λ b. cond b (Some (list_of s session ++ txn ∷ [])) (get s name)) tied)
              ∙ ap (λ (z : List ℕ). list_of s z ++ txn ∷ []) same,
        )
    go false apart = (
      [],
      ap (λ o. unwrap_or o []) (found ∙ ap (λ b. cond b (Some (list_of s session ++ txn ∷ [])) (get s name)) apart)
          ∙ sym (append-nil (list_of s name)),
    )
