-- A search for a label, one after the other.
use Rattle.std.proofs.Common.{below_more, ℕ, zero, suc, ◌∷◌, ◌≡◌, ◌<◌, ◌≤◌, ◌+◌, Bool, true, false, List, [], length, map, get_or, sym, ap, ◌∙◌}
use Rattle.std.proofs.Common.{arith}
use Rattle.std.specs.Str.{bytes_eq}
use Rattle.std.proofs.lemmas.List.{get_or-map}
use Rattle.std.proofs.lemmas.List.Sums.{position_or_len_is}
use Rattle.tcc_slices.specs.Moved.{number_among}

abbrev pub NotBefore : List (List ℕ) → List ℕ → ℕ → Type 0
NotBefore labels label n = (k : ℕ) → k < n → bytes_eq label (get_or labels k []) ≡ false

pub found : (labels : List (List ℕ)) (label : List ℕ) (n : ℕ) → n < length labels → bytes_eq label (get_or labels n []) ≡ true → NotBefore labels label n
    → n ≡ number_among labels label
unfolding number_among
found labels label n within here before = sym (position_or_len_is (bytes_eq label) labels n [] (omega arith) before (λ _. here))

pub missed : (labels : List (List ℕ)) (label : List ℕ) (n : ℕ) → length labels ≤ n → NotBefore labels label n → length labels ≡ number_among labels label
unfolding number_among
missed labels label n past before =
    sym (position_or_len_is (bytes_eq label) labels (length labels) [] (omega arith) (λ k less. before k (omega arith)) (λ less. absurd (omega arith)))

pub passed : (labels : List (List ℕ)) (label : List ℕ) (n : ℕ) → bytes_eq label (get_or labels n []) ≡ false → NotBefore labels label n
    → NotBefore labels label (n + 1)
passed labels label n here before = below_more (λ k. bytes_eq label (get_or labels k []) ≡ false) n before here

-- the text at an index, as a read of it answers
pub read_there : {X : Type 0} (text : X → List ℕ) (xs : List X) (n : ℕ) (x : X) (label now : List ℕ) (b : Bool) → n < length xs → x ≡ get_or xs n x
    → now ≡ text x → b ≡ bytes_eq label now
    → bytes_eq label (get_or (map text xs) n []) ≡ b
read_there text xs n x label now b within is reads tests =
    ap (λ (z : List ℕ). bytes_eq label z) (get_or-map text xs n x [] within ∙ ap text (sym is) ∙ sym reads) ∙ sym tests

-- what a list has at an index, mapped twice
module _ {X Y : Type 0} (text : X → Y) (f : Y → ℕ) where
  pub looked : (xs : List X) (n : ℕ) (x : X) (d : ℕ) → n < length xs → x ≡ get_or xs n x → get_or (map f (map text xs)) n d ≡ f (text x)
  looked [] n x d within is = absurd (omega arith)
  looked (y ∷ xs) zero x d within is = ap (λ z. f (text z)) (sym is)
  looked (y ∷ xs) (suc n) x d within is = looked xs n x d (omega arith) is
