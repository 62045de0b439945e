-- A table of names to which one is added.
use Rattle.std.proofs.Common.{◌≡◌, ℕ, zero, suc, ◌<◌, Bool, true, false, cond, ◌||◌, List, [], ◌∷◌, ◌++◌, length, get_or, refl, ap, sym, subst, ◌∙◌, arith}
use Rattle.std.proofs.Common.{Option, None, Some, length-append}
use Rattle.std.specs.Prelude.{MatchOption}
use Rattle.std.specs.List.{list_any}
use Rattle.std.specs.BTreeMap.{BTreeMap, get, Updates}
use Rattle.std.specs.Ordering.{is_eq}
use Rattle.std.specs.declared.cmp.Ordering.{Ordering}
use Rattle.std.specs.declared.cmp.Ordering.TheVariants.{Less, Equal, Greater}
use Rattle.std.specs.Cmp.Lexicographic.{nat_list_eq_equiv, texts_ties}
use Rattle.std.proofs.lemmas.List.Folds.{list_any-append}
use Rattle.std.proofs.Math.Bool.{or-false}
use Rattle.std.proofs.Math.Seq.{get_or-append_seam}
use Rattle.std.proofs.lemmas.List.{get_or_append_left}
use Rattle.std.proofs.lemmas.Map.Lookups.{exact_bytes}
use Rattle.std.proofs.lemmas.Map.Views.{list_any-from_Contains}
use Rattle.tcc_txn.specs.Symbols.{IsNumber, is_symbol, with_symbol}
use Rattle.tcc_txn.specs.private.Symbols.{HoldsNumbers}
use Rattle.tcc_txn.proofs.SortedParts.{name_cmp, same_name, same_names}

-- a name with a number is among the names
pub among : (names : List (List ℕ)) (name : List ℕ) (n : ℕ) → IsNumber names name n → list_any (same_name name) names ≡ true
among names name n number =
    let here : get_or names n name ≡ name = get_or-default names n number.within ∙ number.named in
    list_any-from_Contains nat_list_eq_equiv name names (n, number.within, here)
  where
    get_or-default : (xs : List (List ℕ)) (k : ℕ) → k < length xs → get_or xs k name ≡ get_or xs k []
    get_or-default [] k within = absurd (omega (arith, within))
    get_or-default (x ∷ xs) zero within = refl
    get_or-default (x ∷ xs) (suc k) within = get_or-default xs k (omega (arith, within))

pub no_more : (names : List (List ℕ)) (name : List ℕ) (n : ℕ) → IsNumber names name n → with_symbol name names ≡ names
no_more names name n number = ap (λ b. cond b names (names ++ name ∷ [])) (among names name n number)

-- a name keeps its number when names are appended
pub number-on : (names more : List (List ℕ)) (name : List ℕ) (n : ℕ) → IsNumber names name n → IsNumber (names ++ more) name n
number-on names more name n number = record {
  within = omega (arith, number.within, length-append names more);
  named = get_or_append_left names more [] n number.within ∙ number.named;
}

pub number-last : (names : List (List ℕ)) (name : List ℕ) → IsNumber (names ++ name ∷ []) name (length names)
number-last names name = record {
  within = omega (arith, length-append names (name ∷ []));
  named = get_or-append_seam names name [] [];
}

equal-if : (r : Ordering) → is_eq r ≡ true → r ≡ Equal
equal-if Less e = cc
equal-if Equal e = refl
equal-if Greater e = cc

-- what a map may hold for a name
abbrev Held : List (List ℕ) → List ℕ → Option ℕ → Type 0
Held names q found = MatchOption found (list_any (same_name q) names ≡ false) (IsNumber names q)

pub held : (names : List (List ℕ)) (numbers : BTreeMap (List ℕ) ℕ) (name : List ℕ) (n : ℕ) → HoldsNumbers names numbers
    → get name_cmp numbers name ≡ Some n → IsNumber names name n
held names numbers name n holds found = subst (Held names name) found (holds name)

-- the map after the number of one more name is put into it
pub numbers-grown : (names : List (List ℕ)) (name : List ℕ) (old new : BTreeMap (List ℕ) ℕ) → HoldsNumbers names old
    → Updates name_cmp old new name (Some (length names)) → HoldsNumbers (names ++ name ∷ []) new
numbers-grown names name old new holds updates q =
    by (is_eq (name_cmp name q)) refl
  where
    all : List (List ℕ)
    all = names ++ name ∷ []

    apart : is_eq (name_cmp name q) ≡ false → same_name q name ≡ false
    apart differ = nat_list_eq_equiv.symm q name ∙ texts_ties name q ∙ differ

    later : is_eq (name_cmp name q) ≡ false → (found : Option ℕ)
        → Held names q found → Held all q found
    later differ None none = list_any-append (same_name q) names (name ∷ []) ∙ grind (arith, none, apart differ)
    later differ (Some n) number = number-on names (name ∷ []) q n number

    by : (b : Bool) → is_eq (name_cmp name q) ≡ b → Held all q (get name_cmp new q)
    by true same =
        let here : name ≡ q = exact_bytes name q (equal-if (name_cmp name q) same) in
        subst (Held all q) (sym (updates.0 q ∙ ap (λ b. cond b (Some (length names)) (get name_cmp old q)) same))
        (subst (λ (z : List ℕ). IsNumber all z (length names)) here (number-last names name))
    by false differ =
        subst (Held all q) (sym (updates.0 q ∙ ap (λ b. cond b (Some (length names)) (get name_cmp old q)) differ))
        (later differ (get name_cmp old q) (holds q))

either_order : (a b : Bool) → (a || b) ≡ (b || a)
either_order true true = refl
either_order true false = refl
either_order false true = refl
either_order false false = refl

-- which names are in the table after one more
pub symbol-more : (names : List (List ℕ)) (name q : List ℕ) → is_symbol q (with_symbol name names) ≡ (same_name name q || is_symbol q names)
symbol-more names name q = go (is_symbol name names) refl
  where
    there : is_symbol name names ≡ true → (b : Bool) → same_name name q ≡ b → is_symbol q names ≡ (b || is_symbol q names)
    there e true same = ap (λ (x : List ℕ). is_symbol x names) (sym (same_names name q same)) ∙ e
    there e false other = refl

    go : (b : Bool) → is_symbol name names ≡ b → is_symbol q (cond b names (names ++ name ∷ [])) ≡ (same_name name q || is_symbol q names)
    go true e = there e (same_name name q) refl
    go false e =
        list_any-append (same_name q) names (name ∷ [])
        ∙ (λ i. is_symbol q names || (or-false (same_name q name) ∙ nat_list_eq_equiv.symm q name) i)
        ∙ either_order (is_symbol q names) (same_name name q)
