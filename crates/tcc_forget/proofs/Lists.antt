-- Which writers may still be read, by cases.
use Rattle.std.proofs.Common.{ℕ, ◌≡◌, ◌==◌, ◌⊎◌, inl, inr, true, false, List, ◌∷◌, zero, suc, Option, None, Some, refl, sym, ap, ◌∙◌, arith}
use Rattle.std.specs.List.{Contains, list_any}
use Rattle.std.proofs.lemmas.Bool.{cases_Bool, cases_eq, false≢true}
use Rattle.tcc_txn.proofs.Lists.{found_number, number_found}
use Rattle.tcc_forget.specs.Covers.{IsReadable, Readable}

-- a number is in a list, or not
pub cases_in : (xs : List ℕ) (n : ℕ) → Contains xs n ⊎ (Contains xs n → ⊥)
cases_in xs n = go (cases_Bool (list_any (λ y. y == n) xs))
  where
    go : (list_any (λ y. y == n) xs ≡ true) ⊎ (list_any (λ y. y == n) xs ≡ false) → Contains xs n ⊎ (Contains xs n → ⊥)
    go (inl is) = inl (found_number xs n is)
    go (inr isnt) = inr (λ there. false≢true (sym isnt ∙ number_found xs n there))

pub some_is : (a b : ℕ) (t : Option ℕ) → t ≡ Some a → t ≡ Some b → a ≡ b
some_is a b t p q = cc

pub none_is : (a : ℕ) (t : Option ℕ) → t ≡ None → t ≡ Some a → ⊥
none_is a t p q = cc

pub cases_some : (t : Option ℕ) (a : ℕ) → (t ≡ Some a) ⊎ (t ≡ Some a → ⊥)
cases_some None a = inr (λ e. cc)
cases_some (Some b) a = go (cases_eq b a)
  where
    go : (b ≡ a) ⊎ (b ≡ a → ⊥) → (Some b ≡ Some a) ⊎ (Some b ≡ Some a → ⊥)
    go (inl same) = inl (ap Some same)
    go (inr apart) = inr (λ e. apart (some_is b a (Some b) refl e))

-- a writer is listed, or the top, or may not be read
pub cases_readable : (r : Readable) (a : ℕ) → Contains r.listed a ⊎ ((r.top ≡ Some a) ⊎ (IsReadable r a → ⊥))
cases_readable r a = go (cases_in r.listed a) (cases_some r.top a)
  where
    go : Contains r.listed a ⊎ (Contains r.listed a → ⊥) → (r.top ≡ Some a) ⊎ (r.top ≡ Some a → ⊥)
        → Contains r.listed a ⊎ ((r.top ≡ Some a) ⊎ (IsReadable r a → ⊥))
    go (inl there) t = inl there
    go (inr none) (inl is) = inr (inl is)
    go (inr none) (inr isnt) = inr (inr neither)
      where
        neither : IsReadable r a → ⊥
        neither (inl there) = none there
        neither (inr is) = isnt is

-- a list with one more at its head
pub in_head : (x : ℕ) (xs : List ℕ) → Contains (x ∷ xs) x
in_head x xs = (0, omega arith, refl)

pub in_tail : (x y : ℕ) (xs : List ℕ) → Contains xs y → Contains (x ∷ xs) y
in_tail x y xs (k, within, here) = (suc k, omega arith, here)

pub head_or_tail : (x y : ℕ) (xs : List ℕ) → Contains (x ∷ xs) y → (x ≡ y) ⊎ Contains xs y
head_or_tail x y xs (zero, within, here) = inl here
head_or_tail x y xs (suc k, within, here) = inr (k, omega arith, here)
