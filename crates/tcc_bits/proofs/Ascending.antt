-- Numbers that are listed in ascending order, word by word and bit by bit.
use Rattle.std.proofs.Common.{◌≡◌, ◌≢◌, ◌<◌, ◌≤◌, ◌+◌, ◌*◌, ◌%◌, ◌^◌, ℕ, ◌⊎◌, inl, inr, List, [], ◌∷◌, ◌++◌, get_or, sym, ◌∙◌, arith, subst, w64}
use Rattle.std.specs.Prelude.{bit_and}
use Rattle.std.specs.Int.{bit_at, bit_not}
use Rattle.std.specs.List.{AllPairs, Contains}
use Rattle.std.proofs.lemmas.Bool.{cases_eq, cases_lt}
use Rattle.std.proofs.lemmas.List.Elements.{Contains-get_or, Contains-push_cases}
use Rattle.std.proofs.lemmas.List.Quantifiers.{all_pairs_push}
use Rattle.tcc_bits.specs.private.Ascending.{IsAscendingBelow}
use Rattle.tcc_bits.proofs.BitLemmas.{cleared}

-- the numbers ascend and come before each that is left in a word
pub record IsAscendingBefore (first left : ℕ) (numbers : List ℕ) : Type 0 where
  pub below : (b : ℕ) → Contains numbers b → b < first + 64
  pub before : (b i : ℕ) → Contains numbers b → i < 64 → bit_at left i ≡ 1 → b < first + i
  pub ascending : AllPairs (λ a b. a < b) numbers

pub ascending_first : (first left : ℕ) (numbers : List ℕ) → IsAscendingBelow first numbers → IsAscendingBefore first left numbers
ascending_first first left numbers is = record {
  below = λ b h. omega (arith, is.below b h);
  before = λ b i h small one. omega (arith, is.below b h);
  ascending = is.ascending;
}

-- the lowest bit that is left is next
pub ascending_more : (first left t : ℕ) (numbers : List ℕ) → t < 64 → bit_at left t ≡ 1 → ((j : ℕ) → j < t → bit_at left j ≡ 0)
    → IsAscendingBefore first left numbers
    → IsAscendingBefore first (bit_and left (bit_not w64 (1 * 2 ^ t % 2 ^ 64))) (numbers ++ (first + t) ∷ [])
ascending_more first left t numbers inside one lowest is = record {
  below = λ b h. low b (Contains-push_cases numbers (first + t) b h);
  before = λ b i h small bit. next b i small bit (Contains-push_cases numbers (first + t) b h) (cases_eq i t);
  ascending = all_pairs_push (λ a b. a < b) numbers (first + t) is.ascending (λ k d within. is.before (get_or numbers k d) t (Contains-get_or numbers k d within) inside one);
}
  where
    less : ℕ
    less = bit_and left (bit_not w64 (1 * 2 ^ t % 2 ^ 64))

    low : (b : ℕ) → Contains numbers b ⊎ (first + t ≡ b) → b < first + 64
    low b (inl h) = is.below b h
    low b (inr e) = omega arith

    next : (b i : ℕ) → i < 64 → bit_at less i ≡ 1 → Contains numbers b ⊎ (first + t ≡ b) → (i ≡ t) ⊎ (i ≢ t) → b < first + i
    next b i small bit _ (inl same) = absurd (let gone = (cleared left t inside one).1 in let here : bit_at less t ≡ 1 = subst (λ (k : ℕ). bit_at less k ≡ 1) same bit in omega arith)
    next b i small bit (inl h) (inr other) = is.before b i h small (sym ((cleared left t inside one).2 i small other) ∙ bit)
    next b i small bit (inr e) (inr other) = behind (cases_lt i t)
      where
        was : bit_at left i ≡ 1
        was = sym ((cleared left t inside one).2 i small other) ∙ bit

        behind : (i < t) ⊎ (t ≤ i) → b < first + i
        behind (inl early) = absurd (let none = lowest i early in let one : bit_at left i ≡ 1 = was in omega arith)
        behind (inr late) = omega arith

pub ascending_done : (first left : ℕ) (numbers : List ℕ) → IsAscendingBefore first left numbers → IsAscendingBelow (first + 64) numbers
ascending_done first left numbers is = record { below = is.below; ascending = is.ascending }

pub ascending_below : (m n : ℕ) (numbers : List ℕ) → m ≡ n → IsAscendingBelow m numbers → IsAscendingBelow n numbers
ascending_below m n numbers same is = subst (λ (k : ℕ). IsAscendingBelow k numbers) same is
