-- Names and pairs that tie, and lists that are read at an index.
use Rattle.std.proofs.Common.{◌≡◌, ℕ, ◌+◌, ◌-◌, ◌<◌, ◌≤◌, Bool, true, false, cond, ◌||◌, List, []}
use Rattle.std.proofs.Common.{◌∷◌, ◌++◌, length, get_or, take, drop, refl, ap, sym, ◌∙◌, arith}
use Rattle.std.proofs.lemmas.List.{drop_more, take_more, length-take}
use Rattle.std.specs.Prelude.{◌==◌}
use Rattle.std.proofs.lemmas.Slice.Eq.{bytes_eq-Decides}
use Rattle.std.specs.Str.{bytes_eq}
use Rattle.std.specs.Ordering.{nat_cmp, is_eq}
use Rattle.std.specs.Cmp.{unsigned_tied, nat_eq_equiv}
use Rattle.std.specs.Cmp.Lexicographic.{texts_ties, nat_list_eq_equiv}
use Rattle.tcc_reads.specs.Sources.{name_cmp}

pub names_tie : (a b : List ℕ) → is_eq (name_cmp a b) ≡ bytes_eq a b
names_tie a b = sym (texts_ties a b)

-- names of the same bytes are equal
pub same_name : (a b : List ℕ) → bytes_eq a b ≡ true → a ≡ b
same_name a b e = (bytes_eq-Decides a b).0 e

pub numbers_same : (n : ℕ) → (n == n) ≡ true
numbers_same n = nat_eq_equiv.refl n

pub itself : (a : List ℕ) → bytes_eq a a ≡ true
itself a = nat_list_eq_equiv.refl a

pub numbers_tie : (v w : ℕ) → is_eq (nat_cmp v w) ≡ (v == w)
numbers_tie v w = unsigned_tied v w

pub cond_or : (b c : Bool) → cond b true c ≡ (b || c)
cond_or true c = refl
cond_or false c = refl

-- a list before and after an index, around the item before the index
pub record IsReadBefore {A : Type 0} (xs : List A) (index : ℕ) (x : A) : Type 0 where
  pub ahead : drop (index - 1) xs ≡ x ∷ drop index xs
  pub behind : take (index - 1) xs ++ x ∷ [] ≡ take index xs
  pub count : length (take (index - 1) xs) + 1 ≡ index - 1 + 1

pub read_before : {A : Type 0} (xs : List A) (index : ℕ) (d x : A) → 0 < index → index ≤ length xs → get_or xs (index - 1) d ≡ x → IsReadBefore xs index x
read_before xs index d x some within is =
    let next : index - 1 + 1 ≡ index = omega arith in
    record {
      ahead = drop_more xs (index - 1) d (omega arith) ∙ (λ i. is i ∷ drop (next i) xs);
      behind = sym (take_more xs (index - 1) d (omega arith) ∙ ap (λ y. take (index - 1) xs ++ y ∷ []) is) ∙ ap (λ k. take k xs) next;
      count = omega (arith, length-take (index - 1) xs);
    }

-- a list before and after an index, around the item at the index
pub record IsReadAt {A : Type 0} (xs : List A) (index : ℕ) (x : A) : Type 0 where
  pub ahead : drop index xs ≡ x ∷ drop (index + 1) xs
  pub behind : take (index + 1) xs ≡ take index xs ++ x ∷ []
  pub count : length (take index xs) ≡ index

pub read_at : {A : Type 0} (xs : List A) (index : ℕ) (d x : A) → index < length xs → get_or xs index d ≡ x → IsReadAt xs index x
read_at xs index d x within is = record {
  ahead = drop_more xs index d within ∙ ap (λ y. y ∷ drop (index + 1) xs) is;
  behind = take_more xs index d within ∙ ap (λ y. take index xs ++ y ∷ []) is;
  count = omega (arith, length-take index xs);
}
