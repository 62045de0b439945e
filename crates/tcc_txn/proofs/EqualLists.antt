-- Lists are equal if their elements at each index are equal. So are entries of lists.
use Rattle.std.proofs.Common.{◌≡◌, ℕ, suc, ◌<◌, List, [], ◌∷◌, length, slice_get, refl, sym, ap, arith, Option, None, Some}
use Rattle.std.specs.Prelude.{option_map, unwrap_or}
use Rattle.std.specs.Option.{option_map_or}
use Rattle.std.proofs.lemmas.Option.{none-some}
use Rattle.tcc_txn.specs.Transactions.{Transaction}

pub same_lists : {X : Type 0} (xs ys : List X) → length xs ≡ length ys → ((k : ℕ) → k < length xs → slice_get xs k ≡ slice_get ys k) → xs ≡ ys
same_lists [] [] long each = refl
same_lists [] (y ∷ ys) long each = absurd (omega (arith, long))
same_lists (x ∷ xs) [] long each = absurd (omega (arith, long))
same_lists {X} (x ∷ xs) (y ∷ ys) long each =
    let here : x ≡ y = ap (λ (o : Option X). unwrap_or o x) (each 0 (omega arith)) in
    let later : xs ≡ ys = same_lists xs ys (omega (arith, long)) (λ k within. each (suc k) (omega (arith, within))) in
    λ i. here i ∷ later i

-- a session's name and its transactions, if there is one, follow from both projections
pub same_named : (o p : Option (List ℕ × List Transaction)) → option_map (λ named. named.0) o ≡ option_map (λ named. named.0) p
    → option_map_or (λ named. named.1) o [] ≡ option_map_or (λ named. named.1) p [] → o ≡ p
same_named None None names lists = refl
same_named None (Some b) names lists = absurd (none-some b.0 names)
same_named (Some a) None names lists = absurd (none-some a.0 (sym names))
same_named (Some a) (Some b) names lists =
    let name : a.0 ≡ b.0 = ap (λ (o : Option (List ℕ)). unwrap_or o a.0) names in
    λ i. Some (name i, lists i)
