-- The values that were written again, as a set and as faults.
use Rattle.std.proofs.Common.{◌≡◌, ℕ, Bool, true, false, cond, ◌&&◌, ◌||◌, List, [], refl, ap, ◌∙◌}
use Rattle.std.specs.BTreeSet.{BTreeSet, btree_set_len, contains}
use Rattle.std.specs.List.{list_any}
use Rattle.std.proofs.lemmas.List.{nil_from_length}
use Rattle.std.specs.Prelude.{◌==◌}
use Rattle.std.specs.Ordering.{is_eq, nat_cmp, ordering_then}
use Rattle.std.specs.declared.cmp.Ordering.{Ordering}
use Rattle.std.specs.declared.cmp.Ordering.TheVariants.{Less, Equal, Greater}
use Rattle.std.specs.Str.{bytes_eq}
use Rattle.tcc_reads.specs.Sources.{name_cmp, pair_cmp}
use Rattle.tcc_reads.proofs.Ties.{names_tie, numbers_tie}

then_tied : (a b : Ordering) → is_eq (ordering_then a b) ≡ (is_eq a && is_eq b)
then_tied Less b = refl
then_tied Equal b = refl
then_tied Greater b = refl

-- pairs tie if both parts are equal
pub pairs_tie : (a b : List ℕ × ℕ) → is_eq (pair_cmp a b) ≡ (bytes_eq a.0 b.0 && (a.1 == b.1))
pairs_tie a b = then_tied (name_cmp a.0 b.0) (nat_cmp a.1 b.1) ∙ (λ i. names_tie a.0 b.0 i && numbers_tie a.1 b.1 i)

pub either : (b c : Bool) → cond b true c ≡ (b || c)
either true c = refl
either false c = refl

-- an empty set has nothing
pub none_inside : (set : BTreeSet (List ℕ × ℕ)) → btree_set_len set ≡ 0 → (r : List ℕ × ℕ) → contains pair_cmp set r ≡ false
none_inside set empty r = let none : set.keys ≡ [] = nil_from_length set.keys empty in ap (list_any (λ k. is_eq (pair_cmp r k))) none
