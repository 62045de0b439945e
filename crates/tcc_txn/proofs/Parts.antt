-- The named lists that a snapshot is made of.
use Rattle.std.proofs.Common.{◌≡◌, ℕ, suc, ◌+◌, ◌<◌, Bool, cond, ◌||◌, List, [], ◌∷◌, ◌++◌, map}
use Rattle.std.proofs.Common.{length, take, drop, get_or, sum_by, refl, ap, sym, ◌∙◌, add-one, Some}
use Rattle.std.proofs.Common.{nat_eq}
use Rattle.std.proofs.Math.Seq.{take-suc, drop-cons}
use Rattle.std.proofs.lemmas.List.{map-append}
use Rattle.std.proofs.lemmas.List.Sums.{sum_by-cons}
use Rattle.std.specs.List.{list_any}
use Rattle.std.specs.Cmp.Lexicographic.{pointwise}
use Rattle.std.specs.Global.{Vec as VecOf}
use Rattle.tcc_txn.specs.Transactions.{Transaction}
use Rattle.tcc_txn.specs.Snapshots.{first_repeated, parts_of}

list_any-map : {X Y : Type 0} (p : Y → Bool) (f : X → Y) (xs : List X) → list_any p (map f xs) ≡ list_any (λ x. p (f x)) xs
list_any-map p f [] = refl
list_any-map p f (x ∷ xs) = ap (λ b. p (f x) || b) (list_any-map p f xs)

-- the names of some parts
abbrev pub names_of : {X : Type 0} → List (List ℕ × X) → List (List ℕ)
names_of parts = map (λ part. part.0) parts

-- whether a part has the name
abbrev pub has_name : {X : Type 0} → List (List ℕ × X) → List ℕ → Bool
has_name parts name = list_any (λ part. pointwise nat_eq name part.0) parts

-- the first repeated name from index i on: the name at i if it is among those before
pub repeated_at : {X : Type 0} (parts : List (List ℕ × X)) (i : ℕ) (d : List ℕ × X) → i < length parts
    → first_repeated (names_of (take i parts)) (names_of (drop i parts))
    ≡ cond (has_name (take i parts) (get_or parts i d).0) (Some (get_or parts i d).0)
    (first_repeated (names_of (take (i + 1) parts)) (names_of (drop (i + 1) parts)))
repeated_at parts i d within =
    rw (add-one, drop-cons parts i d within, take-suc parts i d within, map-append (λ part. part.0) (take i parts) (get_or parts i d ∷ []))
    (ap (λ b. cond b (Some (get_or parts i d).0) (first_repeated (names_of (take i parts) ++ (get_or parts i d).0 ∷ []) (names_of (drop (suc i) parts))))
    (list_any-map (pointwise nat_eq (get_or parts i d).0) (λ part. part.0) (take i parts)))

pub names_of-parts_of : (parts : List (List ℕ × VecOf Transaction)) → names_of (parts_of parts) ≡ names_of parts
names_of-parts_of [] = refl
names_of-parts_of (part ∷ parts) = ap (λ names. part.0 ∷ names) (names_of-parts_of parts)

pub length-parts_of : (parts : List (List ℕ × VecOf Transaction)) → length (parts_of parts) ≡ length parts
length-parts_of [] = refl
length-parts_of (part ∷ parts) = ap suc (length-parts_of parts)

pub sum_by-parts_of : (parts : List (List ℕ × VecOf Transaction))
    → sum_by (λ part. length part.1) (parts_of parts) ≡ sum_by (λ part. length part.1.items) parts
sum_by-parts_of [] = refl
sum_by-parts_of (part ∷ parts) =
    sum_by-cons (λ (p : List ℕ × List Transaction). length p.1) (part.0, part.1.items) (parts_of parts)
    ∙ ap (λ n. length part.1.items + n) (sum_by-parts_of parts)
    ∙ sym (sum_by-cons (λ (p : List ℕ × VecOf Transaction). length p.1.items) part parts)
